use Rattle.std.proofs.Common.{ℕ, ◌<◌}
use Rattle.std.specs.Prelude.{slice_index_or}
use Rattle.rank_certificate.specs.inside.RankLayers.{HasRankWithin}
use Rattle.rank_certificate.specs.inside.OfAsked.{value_in}
use Rattle.rank_certificate.proofs.Meeting.{IsMet}
use Rattle.rank_certificate.proofs.asked.Asked.leads_low.Given as goal

abbrev pub invariant-loop-to : goal.invariant-loop-to
invariant-loop-to l = (p : ℕ) → p < l.to-index
    → ¬ IsMet (value_in l.self) (HasRankWithin l.ranks l.level) l.state (slice_index_or l.to-items p 0)
