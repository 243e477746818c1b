-- These invariants hold for the words between any two steps, and for what a view has seen of them.
use Rattle.std.specs.Prelude.{◌≡◌, ℕ, ◌<◌, ◌⊎◌, true, List, length, slice_index}
use Rattle.game_model.specs.Query.{Query, states, is_goal}
use Rattle.game_model.specs.Limits.{unit}
use Rattle.game_model.specs.Rounded.{down_steps, IsBelow}
use Rattle.game_model.specs.Ranks.{Ranked}
use Rattle.step_core.specs.Word.{value_at, values_of, picks_of}

-- The values are nowhere above some r-fold down step, and ranks show that their choices reach them. So the values are
-- at most the unit, goals have the unit and dead states have 0.
pub record AreSoundWords (q : Query) (words : List ℕ) : Type 0 where
  pub as_many : length words ≡ states q
  pub rounds : ℕ
  pub below : IsBelow q (value_at words) (down_steps q rounds)
  pub ranks : List ℕ
  pub ranks_as_many : length ranks ≡ states q
  pub ranked : Ranked q (values_of words) (picks_of words) ranks

-- Each word is the one that was seen or has a greater value. Goals were seen with the unit.
pub record Sees (q : Query) (words seen : List ℕ) : Type 0 where
  pub as_many : length seen ≡ states q
  pub each : (s : ℕ) → (slice_index words s ≡ slice_index seen s) ⊎ (value_at seen s < value_at words s)
  pub goals : (s : ℕ) → s < states q → is_goal q s ≡ true → value_at seen s ≡ unit
