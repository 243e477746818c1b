use Rattle.std.proofs.Common.{◌≡◌, [], length}
use Rattle.text_lines.specs.Text.{fields_of}
use Rattle.label_lines.specs.Header.{items_from}
use Rattle.label_lines.proofs.header.read_header.Given as goal

abbrev pub invariant-loop-field : goal.invariant-loop-field
invariant-loop-field l = items_from l.kind l.header (fields_of l.rest) ≡ items_from l.kind [] (fields_of l.line)

abbrev pub decreases-loop-field : goal.decreases-loop-field
decreases-loop-field l = length (fields_of l.rest)
