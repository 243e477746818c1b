use Rattle.rewards_reader.proofs.AmountLaws.{amount-found, amount-again}
use Rattle.rewards_reader.proofs.laws.amounts_are_those_that_a_text_denotes.Goals as goal

pub returns : goal.returns
returns c = λ text f. (amount-found text f, amount-again text f)
