use Rattle.strategies.proofs.Plans.{plan-reaches}
use Rattle.strategies.proofs.laws.plans.plans_reach_against_every_strategy.Goals as goal

pub returns : goal.returns
returns c = plan-reaches
