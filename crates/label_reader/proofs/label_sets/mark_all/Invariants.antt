use Rattle.std.proofs.Common.{◌≡◌, ◌<◌, ℕ, length, All}
use Rattle.text_lines.specs.Text.{fields_of}
use Rattle.label_lines.specs.Lines.{known_fields}
use Rattle.label_reader.specs.inside.Marked.{with_marks}
use Rattle.label_reader.proofs.label_sets.mark_all.Given as goal

abbrev pub invariant-loop-field : goal.invariant-loop-field
invariant-loop-field l = record {
  known : known_fields l.header (fields_of l.rest) ≡ known_fields l.header (fields_of l.numbers);
  marks : with_marks l.header l.state l.sets (fields_of l.rest)
      ≡ with_marks l.header l.state l.initial.sets (fields_of l.numbers);
  states : All (λ marks. l.state < length marks) l.sets;
  lengths : (n : ℕ) → All (λ marks. length marks ≡ n) l.initial.sets → All (λ marks. length marks ≡ n) l.sets;
}

abbrev pub decreases-loop-field : goal.decreases-loop-field
decreases-loop-field l = length (fields_of l.rest)
