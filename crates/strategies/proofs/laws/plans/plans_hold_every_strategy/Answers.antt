use Rattle.strategies.proofs.Plans.{plan-holds}
use Rattle.strategies.proofs.laws.plans.plans_hold_every_strategy.Goals as goal

pub returns : goal.returns
returns c = plan-holds
