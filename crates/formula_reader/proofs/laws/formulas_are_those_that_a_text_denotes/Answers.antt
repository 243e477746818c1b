use Rattle.formula_reader.proofs.Again.{formula_said_again}
use Rattle.formula_reader.proofs.Denoted.{formula_denoted}
use Rattle.formula_reader.proofs.laws.formulas_are_those_that_a_text_denotes.Goals as goal

pub returns : goal.returns
returns c = λ text tree. (formula_denoted text tree, formula_said_again text tree)
