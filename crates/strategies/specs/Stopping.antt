-- This module defines questions whose plays come to an end, and how fast their brackets close.
use Rattle.std.specs.Prelude.{ℕ, zero, suc, ◌+◌, ◌-◌, ◌*◌, ◌^◌, ◌<◌, ◌≤◌, Bool, false, ◌||◌, List, map}
use Rattle.std.specs.Prelude.{slice_index_or, if◌then◌else◌}
use Rattle.std.specs.List.{range_with_len}
use Rattle.game_model.specs.declared.game.Side.TheVariants.{Max}
use Rattle.game_model.specs.Game.{choices_of}
use Rattle.game_model.specs.Query.{Query, states, is_goal}
use Rattle.game_model.specs.Values.{optimum, denominator, numerator}
use Rattle.game_model.specs.Dual.{open_numerator}
use Rattle.game_model.specs.Limits.{unit}
use Rattle.strategies.specs.Strategies.{worth}

-- A play is over at a goal or a lost state.
abbrev pub is_over : Query → List Bool → ℕ → Bool
is_over q lost s = is_goal q s || slice_index_or lost s false

-- This is the greatest probability that a play is not over within k steps, whoever moves, over the k-th power of the
-- denominator.
unfoldable pub undecided : Query → List Bool → ℕ → ℕ → ℕ
undecided q lost zero s = if is_over q lost s then 0 else 1
undecided q lost (suc k) s = if is_over q lost s then 0 else optimum Max (worth q (undecided q lost k))
    (choices_of q.game s)

-- This question asks whether a play is over: its goals are the states that end a play.
abbrev pub ending : Query → List Bool → Query
ending q lost = record {
  game = q.game;
  sides = q.sides;
  goals = map (is_over q lost) (range_with_len 0 (states q));
  deads = map (λ s. false) (range_with_len 0 (states q));
}

-- From every state, however both play, the play is over within n steps with a positive probability.
abbrev pub IsStopping : Query → List Bool → ℕ → Type 0
IsStopping q lost n = (s : ℕ) → s < states q → undecided q lost n s < denominator q.game ^ n

-- The lower table is at most r units below the r-step values, and the upper table is at most r units above the values
-- of not being lost.
pub record AreClose (q : Query) (lost : List Bool) (r : ℕ) (lower upper : ℕ → ℕ) : Type 0 where
  pub below : (s : ℕ) → s < states q → unit * numerator q r s ≤ (lower s + r) * denominator q.game ^ r
  pub above : (s : ℕ) → s < states q → upper s * denominator q.game ^ r
      ≤ unit * open_numerator q lost r s + r * denominator q.game ^ r

-- The upper bound is above the lower one by at most 2 r units and the probability (1 - 1/D^n)^j, where D is the
-- denominator.
abbrev pub IsWithin : Query → ℕ → ℕ → ℕ → (ℕ → ℕ) → (ℕ → ℕ) → Type 0
IsWithin q n j r lower upper = (s : ℕ) → s < states q →
    upper s * (denominator q.game ^ n) ^ j
    ≤ (lower s + 2 * r) * (denominator q.game ^ n) ^ j + unit * (denominator q.game ^ n - 1) ^ j
