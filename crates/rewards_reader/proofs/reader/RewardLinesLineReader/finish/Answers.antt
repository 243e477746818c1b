use Rattle.std.proofs.Common.{[]}
use Rattle.rewards_reader.proofs.Right.{right-along}
use Rattle.rewards_reader.proofs.reader.RewardLinesLineReader.finish.Goals as goal

pub returns-in-Some : goal.returns-in-Some
returns-in-Some c = λ number. right-along c.args.self.game.now c.args.self.table c.in-Some.table number []
    c.finish.result c.in-Some.is (λ before kept. c.finish.ensures before number kept)
