use Rattle.std.proofs.Common.{◌≡◌, ℕ, ◌<◌, true}
use Rattle.std.specs.Prelude.{slice_index_or}
use Rattle.game_model.specs.Game.{choice_of, no_edge}
use Rattle.expected_rewards.specs.Tables.{is_finite}
use Rattle.reward_check.proofs.successors.leads_away.Given as goal

abbrev pub invariant-loop-place : goal.invariant-loop-place
invariant-loop-place l = (p : ℕ) → p < l.place → is_finite l.marks
    (slice_index_or (choice_of l.question.game l.state l.choice).edges p no_edge).to ≡ true
