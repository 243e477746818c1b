use Rattle.std.proofs.Common.{ℕ, ◌<◌}
use Rattle.std.specs.Prelude.{slice_index, slice_index_or}
use Rattle.game_model.specs.Game.{choice_of, no_edge}
use Rattle.reward_check.proofs.successors.leads_down.Given as goal

abbrev pub invariant-loop-place : goal.invariant-loop-place
invariant-loop-place l = (p : ℕ) → p < l.place
    → slice_index l.ranks (slice_index_or (choice_of l.question.game l.state l.choice).edges p no_edge).to
    < slice_index l.ranks l.state → ⊥
