use Rattle.bounded_rounds.proofs.Bracketed.{IsBracketed-next}
use Rattle.bounded_rounds.proofs.laws.brackets.next_values_are_bracketed.Goals as goal

pub returns : goal.returns
returns c = IsBracketed-next
