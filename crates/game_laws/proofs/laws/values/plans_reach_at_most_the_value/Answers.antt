use Rattle.game_laws.proofs.Under.{numerator_under-most}
use Rattle.game_laws.proofs.laws.values.plans_reach_at_most_the_value.Goals as goal

pub returns : goal.returns
returns c = numerator_under-most
