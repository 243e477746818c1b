use Rattle.std.proofs.Common.{◌≡◌, length}
use Rattle.std.specs.List.{list_all}
use Rattle.text_lines.specs.Text.{fields_of}
use Rattle.label_lines.specs.Lines.{is_number}
use Rattle.label_lines.proofs.state_line.all_whole.Given as goal

abbrev pub invariant-loop-field : goal.invariant-loop-field
invariant-loop-field l = list_all is_number (fields_of l.rest) ≡ list_all is_number (fields_of l.line)

abbrev pub decreases-loop-field : goal.decreases-loop-field
decreases-loop-field l = length (fields_of l.rest)
