use Rattle.std.proofs.Common.{◌≡◌, ◌≤◌, ◌+◌, length}
use Rattle.text_lines.specs.Text.{lines_of, significant}
use Rattle.plan_text.specs.Parts.{first_with}
use Rattle.plan_text.proofs.heading.find_first_line.Given as goal

abbrev pub invariant-loop-line : goal.invariant-loop-line
invariant-loop-line l = record {
  said : first_with l.word l.number (significant (lines_of l.rest))
      ≡ first_with l.word 1 (significant (lines_of l.text));
  number : l.number + length l.rest ≤ 1 + length l.text;
}

abbrev pub decreases-loop-line : goal.decreases-loop-line
decreases-loop-line l = length l.rest
