use Rattle.rewards_reader.proofs.TextLaws.{rewards-found, rewards-again}
use Rattle.rewards_reader.proofs.laws.rewards_are_those_that_a_text_denotes.Goals as goal

pub returns : goal.returns
returns c = λ game text table. (rewards-found game text table, rewards-again game text table)
