use Rattle.std.proofs.Common.{◌+◌, ◌≤◌, length}
use Rattle.text_lines.specs.Text.{lines_of, significant}
use Rattle.text_lines.specs.Blank.{IsRightFor}
use Rattle.text_lines.proofs.reader.read_lines.Given as goal

abbrev pub invariant-loop-line : goal.invariant-loop-line
invariant-loop-line g l = record {
  goes_on : (answer : _)
      → IsRightFor g.R.LineReader.answers l.feeder.reader l.feeder.next l.feeder.blanks (lines_of l.rest) answer
      → g.R.LineReader.answers l.fn.reader 1 (significant (lines_of l.text)) answer;
  count : l.feeder.next + l.feeder.blanks + length l.rest ≤ length l.text + 1;
}

abbrev pub decreases-loop-line : goal.decreases-loop-line
decreases-loop-line g l = length l.rest
