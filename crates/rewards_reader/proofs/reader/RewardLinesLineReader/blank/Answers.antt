use Rattle.std.proofs.Common.{◌∷◌, Err}
use Rattle.rewards_reader.proofs.Right.{right-along, right-blank}
use Rattle.rewards_reader.proofs.reader.RewardLinesLineReader.blank.Goals as goal

pub returns-in-Some : goal.returns-in-Some
returns-in-Some c = λ line lines blank.
    let table = c.in-Some.table in
    right-along c.args.self.now.game.now c.args.self.now.table table c.args.number (line ∷ lines) (Err c.blank.result)
    c.in-Some.is (right-blank table c.args.number line lines c.blank.result blank c.blank.ensures)
