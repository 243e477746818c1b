use Rattle.std.proofs.Common.{◌≡◌, ℕ, length, true, false}
use Rattle.std.specs.Prelude.{slice_index_or}
use Rattle.sample_games.proofs.questions.only.Given as goal

abbrev pub invariant-loop-state : goal.invariant-loop-state
invariant-loop-state l = record {
  many : length l.marks.items ≡ l.state;
  marks : (s : ℕ) → slice_index_or l.marks.items s false ≡ true → s ≡ l.marked;
}
