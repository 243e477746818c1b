use Rattle.std.proofs.Common.{◌≡◌, length}
use Rattle.text_lines.specs.Text.{fields_of}
use Rattle.label_reader.specs.inside.Owned.{owner_behind}
use Rattle.label_reader.proofs.Owning.{owner_if}
use Rattle.label_reader.proofs.owner_table.owner_behind.Given as goal

abbrev pub invariant-loop-field : goal.invariant-loop-field
invariant-loop-field l = owner_if l.agree l.header l.state l.owner (fields_of l.rest)
    ≡ owner_behind l.header l.state l.fn.named (fields_of l.numbers)

abbrev pub decreases-loop-field : goal.decreases-loop-field
decreases-loop-field l = length (fields_of l.rest)
