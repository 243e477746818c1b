use Rattle.std.proofs.Common.{ℕ, ◌<◌}
use Rattle.std.specs.Prelude.{slice_index}
use Rattle.rank_certificate.specs.Carrying.{Stands}
use Rattle.rank_certificate.proofs.table.all_stand.Given as goal

abbrev pub invariant-loop-state : goal.invariant-loop-state
invariant-loop-state l = (s : ℕ) → s < l.state → Stands l.question (slice_index l.values) s
