use Rattle.std.proofs.Common.{◌≡◌, ◌≤◌, ◌+◌, length}
use Rattle.text_lines.specs.Text.{lines_of}
use Rattle.values_reader.specs.Faults.{counted}
use Rattle.values_reader.proofs.lines.next_line.Given as goal

abbrev pub invariant-loop-line : goal.invariant-loop-line
invariant-loop-line l = record {
  same : counted l.next (lines_of l.rest) ≡ counted l.number (lines_of l.text);
  number : l.next + length l.rest ≤ l.number + length l.text;
  later : l.number ≤ l.next;
  shorter : length l.rest ≤ length l.text;
}

abbrev pub decreases-loop-line : goal.decreases-loop-line
decreases-loop-line l = length l.rest
