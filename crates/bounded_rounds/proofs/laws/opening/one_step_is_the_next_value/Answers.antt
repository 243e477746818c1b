use Rattle.bounded_rounds.proofs.Opening.{exact_from-next}
use Rattle.bounded_rounds.proofs.laws.opening.one_step_is_the_next_value.Goals as goal

pub returns : goal.returns
returns c = exact_from-next
