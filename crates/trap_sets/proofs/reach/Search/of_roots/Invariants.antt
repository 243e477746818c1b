use Rattle.std.proofs.Common.{◌≡◌, ℕ, ◌+◌, ◌<◌, length, false}
use Rattle.std.specs.Prelude.{slice_index, slice_index_or, ◌==◌}
use Rattle.attractors.specs.Search.{IsOrder}
use Rattle.trap_sets.proofs.reach.Search.of_roots.Given as goal

abbrev pub invariant-loop-state : goal.invariant-loop-state
invariant-loop-state l = record {
  many : length l.marks.items ≡ l.state;
  each : (s : ℕ) → s < l.state → slice_index_or l.marks.items s false ≡ (slice_index l.internal.part.now s == s + 1);
  ordered : IsOrder l.marks.items l.order.items;
}
