use Rattle.strategies.proofs.Plans.{against-near, against-high}
use Rattle.strategies.proofs.laws.plans.plans_bound_values.Goals as goal

pub returns-clause-high : goal.returns-clause-high
returns-clause-high c = against-high

pub returns-clause-near : goal.returns-clause-near
returns-clause-near c = against-near
