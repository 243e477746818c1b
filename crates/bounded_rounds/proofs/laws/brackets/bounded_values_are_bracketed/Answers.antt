use Rattle.bounded_rounds.proofs.Bracketed.{IsBracketed-opening}
use Rattle.bounded_rounds.proofs.laws.brackets.bounded_values_are_bracketed.Goals as goal

pub returns : goal.returns
returns c = IsBracketed-opening
