use Rattle.std.proofs.Common.{◌≡◌, ◌≤◌, ◌+◌, length}
use Rattle.text_lines.specs.Text.{lines_of}
use Rattle.plan_text.specs.Parts.{end_said}
use Rattle.plan_text.proofs.read.check_end.Given as goal

abbrev pub invariant-loop-line : goal.invariant-loop-line
invariant-loop-line l = record {
  said : end_said l.number (lines_of l.rest) ≡ end_said l.first (lines_of l.text);
  number : l.number + length l.rest ≤ l.first + length l.text;
}

abbrev pub decreases-loop-line : goal.decreases-loop-line
decreases-loop-line l = length l.rest
