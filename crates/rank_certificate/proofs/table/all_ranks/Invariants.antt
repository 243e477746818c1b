use Rattle.std.proofs.Common.{◌≡◌, ℕ, ◌<◌, length, Some, None}
use Rattle.std.specs.Prelude.{slice_index, slice_index_or}
use Rattle.rank_certificate.proofs.table.all_ranks.Given as goal

abbrev pub invariant-loop-rank : goal.invariant-loop-rank
invariant-loop-rank l = record {
  many : length l.numbers.items ≡ l.rank-index;
  each : (s : ℕ) → s < l.rank-index → slice_index_or l.ranks s None ≡ Some (slice_index l.numbers.items s);
}
