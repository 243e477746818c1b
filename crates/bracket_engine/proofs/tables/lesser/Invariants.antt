use Rattle.std.proofs.Common.{◌≡◌, ℕ, ◌<◌, length, min}
use Rattle.std.specs.Prelude.{slice_index}
use Rattle.bracket_engine.proofs.tables.lesser.Given as goal

abbrev pub invariant-loop-place : goal.invariant-loop-place
invariant-loop-place l = record {
  many : length l.table.items ≡ l.place;
  each : (s : ℕ) → s < l.place → slice_index l.table.items s ≡ min (slice_index l.one s) (slice_index l.other s);
}
