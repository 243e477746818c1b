use Rattle.std.proofs.Common.{◌≡◌, ℕ, ◌<◌, length}
use Rattle.std.specs.Prelude.{slice_index, slice_index_or, None}
use Rattle.bracket_engine.specs.Choices.{choice_of_word}
use Rattle.bracket_engine.proofs.tables.choices_of_words.Given as goal

abbrev pub invariant-loop-state : goal.invariant-loop-state
invariant-loop-state l = record {
  as_many : length l.choices.items ≡ l.state;
  each : (s : ℕ) → s < l.state
      → slice_index_or l.choices.items s None ≡ choice_of_word l.question s (slice_index l.words s);
}
