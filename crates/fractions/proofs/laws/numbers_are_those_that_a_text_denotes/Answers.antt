use Rattle.fractions.proofs.Said.{number-found, number-again}
use Rattle.fractions.proofs.laws.numbers_are_those_that_a_text_denotes.Goals as goal

pub returns : goal.returns
returns c = λ text f. (number-found text f, number-again text f)
