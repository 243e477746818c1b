-- This module defines what is needed of a plan that proves that states are not finite.
use Rattle.std.specs.Prelude.{◌≡◌, ℕ, ◌<◌, Bool, false, List, length, slice_index, slice_index_or, Option, None}
use Rattle.std.specs.Prelude.{IsSomeAnd}
use Rattle.game_model.specs.declared.game.Side.TheVariants.{Max}
use Rattle.game_model.specs.Game.{choices_of}
use Rattle.game_model.specs.Query.{Query, states, side_at}
use Rattle.expected_rewards.specs.Tables.{is_finite, AreAwayRanks}
use Rattle.solved_rewards.specs.declared.away.AwayPlan.{AwayPlan}

-- The maximiser has a choice in range at each of its states that is not finite.
abbrev pub HasAwayChoices : Query → List Bool → List (Option ℕ) → Type 0
HasAwayChoices q finite choices = (s : ℕ) → s < states q → side_at q s ≡ Max → is_finite finite s ≡ false →
    IsSomeAnd (slice_index_or choices s None) (λ k. k < length (choices_of q.game s))

-- The lists have an entry for each state. The choices and ranks prove that the states that are not marked are not
-- finite.
pub record IsAwayPlan (q : Query) (plan : AwayPlan) : Type 0 where
  pub finite : length plan.finite.now ≡ states q
  pub planned : length plan.choices.now ≡ states q
  pub ranked : length plan.ranks.now ≡ states q
  pub choices : HasAwayChoices q plan.finite.now plan.choices.now
  pub away : AreAwayRanks q plan.finite.now plan.choices.now (slice_index plan.ranks.now)
