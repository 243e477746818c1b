use Rattle.bounded_rounds.proofs.Opening.{down_from-opening}
use Rattle.bounded_rounds.proofs.laws.opening.down_steps_are_those_of_iteration.Goals as goal

pub returns : goal.returns
returns c = λ q k s posed. down_from-opening q posed k s
