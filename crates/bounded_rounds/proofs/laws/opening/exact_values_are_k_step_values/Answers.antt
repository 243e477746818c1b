use Rattle.bounded_rounds.proofs.Opening.{exact_from-opening}
use Rattle.bounded_rounds.proofs.laws.opening.exact_values_are_k_step_values.Goals as goal

pub returns : goal.returns
returns c = exact_from-opening
