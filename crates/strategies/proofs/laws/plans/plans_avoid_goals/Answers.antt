use Rattle.strategies.proofs.Avoiding.{holds-avoids, reaches-avoided}
use Rattle.strategies.proofs.laws.plans.plans_avoid_goals.Goals as goal

pub returns-clause-avoids : goal.returns-clause-avoids
returns-clause-avoids c = holds-avoids

pub returns-clause-avoided : goal.returns-clause-avoided
returns-clause-avoided c = reaches-avoided
