use Rattle.verdicts.proofs.Reached.{planned-reaches}
use Rattle.verdicts.proofs.laws.planned_values_are_reached.Goals as goal

pub returns : goal.returns
returns c = planned-reaches c.plans_reach_at_most_the_value.ensures
