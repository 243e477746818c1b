use Rattle.std.proofs.Common.{ℕ, ◌<◌}
use Rattle.std.specs.Prelude.{slice_index}
use Rattle.game_model.specs.Game.{edge_of}
use Rattle.rank_certificate.specs.Ranking.{IsOnward}
use Rattle.rank_certificate.proofs.choice.leads_onward.Given as goal

abbrev pub invariant-loop-place : goal.invariant-loop-place
invariant-loop-place l = (p : ℕ) → p < l.place
    → ¬ IsOnward (slice_index l.values) (slice_index l.ranks) l.state (edge_of l.question.game l.state l.choice p).to
