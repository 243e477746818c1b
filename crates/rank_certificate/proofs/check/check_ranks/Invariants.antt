use Rattle.std.proofs.Common.{ℕ, ◌<◌}
use Rattle.std.specs.Prelude.{slice_index}
use Rattle.rank_certificate.specs.Ranking.{IsRankedAt}
use Rattle.rank_certificate.proofs.check.check_ranks.Given as goal

abbrev pub invariant-loop-state : goal.invariant-loop-state
invariant-loop-state l =
    (s : ℕ) → s < l.state → IsRankedAt l.question (slice_index l.values) (slice_index l.ranks) l.choices s
