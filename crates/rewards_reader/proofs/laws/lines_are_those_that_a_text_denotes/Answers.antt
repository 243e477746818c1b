use Rattle.rewards_reader.proofs.TextLaws.{lines-found, lines-again}
use Rattle.rewards_reader.proofs.laws.lines_are_those_that_a_text_denotes.Goals as goal

pub returns : goal.returns
returns c = λ game text lines. (lines-found game text lines, lines-again game text lines)
