use Rattle.std.proofs.Common.{◌≡◌, ◌∷◌, length}
use Rattle.text_lines.specs.Text.{fields_of}
use Rattle.values_reader.specs.Lines.{is_closed}
use Rattle.values_reader.proofs.line.closed.Given as goal

abbrev pub invariant-loop-field : goal.invariant-loop-field
invariant-loop-field l = is_closed (l.last ∷ fields_of l.behind) ≡ is_closed (l.first ∷ fields_of l.rest)

abbrev pub decreases-loop-field : goal.decreases-loop-field
decreases-loop-field l = length (fields_of l.behind)
