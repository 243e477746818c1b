use Rattle.std.proofs.Common.{◌≤◌, ◌+◌, ◌++◌, ◌∷◌, ℕ, List, length}
use Rattle.text_lines.specs.Text.{lines_of}
use Rattle.text_lines.specs.Blank.{IsRightFor}
use Rattle.text_lines.specs.Laws.{IsEndOf}
use Rattle.game_outside.proofs.whole_lines.feed_lines.Given as goal

abbrev pub invariant-loop-next : goal.invariant-loop-next
invariant-loop-next g l = record {
  end : IsEndOf l.rest l.bytes;
  goes_on : (behind : List ℕ) (answer : _)
      → IsRightFor g.R.LineReader.answers l.feeder.reader l.feeder.next l.feeder.blanks
      (l.line ∷ lines_of (l.rest ++ behind)) answer
      → IsRightFor g.R.LineReader.answers l.fn.feeder.reader l.fn.feeder.next
      l.fn.feeder.blanks (l.fn.line ∷ lines_of (l.bytes ++ behind)) answer;
  count : l.feeder.next + l.feeder.blanks + length l.rest ≤ l.fn.feeder.next + l.fn.feeder.blanks + length l.bytes;
}

abbrev pub decreases-loop-next : goal.decreases-loop-next
decreases-loop-next g l = length l.rest
