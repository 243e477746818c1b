use Rattle.std.proofs.Common.{◌∷◌, Err, List, ℕ}
use Rattle.text_lines.specs.Text.{fields_of}
use Rattle.rewards_reader.specs.inside.Kept.{IsRight, RefusesLine}
use Rattle.rewards_reader.proofs.Right.{right-along, right-fault, end-further}
use Rattle.rewards_reader.proofs.reader.RewardLinesLineReader.take.Goals as goal

pub returns-in-Some-clause-fault : goal.returns-in-Some-clause-fault
returns-in-Some-clause-fault c =
    let self = c.args.self.now in
    let table = c.in-Some.table in
    let line = c.args.line.now in
    end-further c.take.result (RefusesLine table c.args.number (fields_of line))
    (λ end. (lines : List (List ℕ)) → IsRight self.game.now self.table c.args.number (line ∷ lines) (Err end))
    (λ end refuses lines. right-along self.game.now self.table table c.args.number (line ∷ lines) (Err end)
    c.in-Some.is (right-fault table c.args.number line lines end refuses)) c.take.ensures.fault
