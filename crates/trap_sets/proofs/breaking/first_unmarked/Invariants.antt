use Rattle.std.proofs.Common.{◌≡◌, ◌≢◌, ℕ, ◌<◌, true, false}
use Rattle.std.specs.Prelude.{slice_index, slice_index_or}
use Rattle.trap_sets.proofs.breaking.first_unmarked.Given as goal

abbrev pub invariant-loop-place : goal.invariant-loop-place
invariant-loop-place l = (s : ℕ) → s < l.place → slice_index l.part s ≢ 0 → slice_index_or l.marks s false ≡ true
