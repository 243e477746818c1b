use Rattle.reward_formula.proofs.Again.{any_again}
use Rattle.reward_formula.proofs.Denoted.{any_denoted}
use Rattle.reward_formula.proofs.laws.formulas_are_those_that_a_text_denotes.Goals as goal

pub returns : goal.returns
returns c = λ text tree. (any_denoted text tree, any_again text tree)
