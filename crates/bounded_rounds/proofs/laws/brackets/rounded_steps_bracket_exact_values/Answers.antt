use Rattle.bounded_rounds.proofs.Bracketed.{IsBracketed-steps}
use Rattle.bounded_rounds.proofs.laws.brackets.rounded_steps_bracket_exact_values.Goals as goal

pub returns : goal.returns
returns c = IsBracketed-steps
