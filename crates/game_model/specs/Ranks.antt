-- This module defines when choices and ranks prove that the values reach a lower table.
use Rattle.std.specs.Prelude.{◌≡◌, ℕ, ◌+◌, ◌*◌, ◌^◌, ◌<◌, ◌≤◌, ◌⊎◌, true, false, List, length, slice_index}
use Rattle.std.specs.Prelude.{slice_index_or, Option, Some, None}
use Rattle.game_model.specs.declared.game.Side.TheVariants.{Max, Min}
use Rattle.game_model.specs.Game.{Distribution, choices_of, choice_of, no_edge}
use Rattle.game_model.specs.Query.{Query, is_goal, is_dead, side_at}
use Rattle.game_model.specs.Values.{weighted_sum, denominator}
use Rattle.game_model.specs.Limits.{unit}
use Rattle.game_model.specs.Plans.{numerator_under}

-- A choice of s gives at least the value of s, and leads to a state of greater value, or of equal value and smaller
-- rank.
pub record IsRankedChoice (value rank : ℕ → ℕ) (s : ℕ) (choice : Distribution) : Type 0 where
  pub enough : value s * choice.total ≤ weighted_sum value choice.edges
  pub place : ℕ
  pub inside : place < length choice.edges
  pub onward : (value s < value (slice_index_or choice.edges place no_edge).to)
      ⊎ ((value (slice_index_or choice.edges place no_edge).to ≡ value s)
      × (rank (slice_index_or choice.edges place no_edge).to < rank s))

-- The list gives the state a choice in range, and that choice is ranked.
pub record HasRankedChoice (q : Query) (value rank : ℕ → ℕ) (choices : List (Option ℕ)) (s : ℕ) : Type 0 where
  pub choice : ℕ
  pub given : slice_index_or choices s None ≡ Some choice
  pub inside : choice < length (choices_of q.game s)
  pub ranked : IsRankedChoice value rank s (choice_of q.game s choice)

-- Choices and ranks prove the values if `top` units are probability 1. At a state of positive value that is neither
-- goal nor dead, the maximiser is given a ranked choice, and every choice of the minimiser is ranked.
pub record RankedIn (top : ℕ) (q : Query) (values : List ℕ) (choices : List (Option ℕ)) (ranks : List ℕ) : Type 0 where
  pub units : (s : ℕ) → s < length q.game → slice_index values s ≤ top
  pub goals : (s : ℕ) → s < length q.game → is_goal q s ≡ true → slice_index values s ≡ top
  pub deads : (s : ℕ) → s < length q.game → is_dead q s ≡ true → slice_index values s ≡ 0
  pub greatest : (s : ℕ) → s < length q.game → is_goal q s ≡ false → is_dead q s ≡ false → 0 < slice_index values s
      → side_at q s ≡ Max
      → HasRankedChoice q (slice_index values) (slice_index ranks) choices s
  pub least : (s : ℕ) → s < length q.game → is_goal q s ≡ false → is_dead q s ≡ false → 0 < slice_index values s
      → side_at q s ≡ Min
      → (c : ℕ) → c < length (choices_of q.game s)
      → IsRankedChoice (slice_index values) (slice_index ranks) s (choice_of q.game s c)

-- Choices and ranks prove the values, in units.
abbrev pub Ranked : Query → List ℕ → List (Option ℕ) → List ℕ → Type 0
Ranked q values choices ranks = RankedIn unit q values choices ranks

-- For each m there is a horizon whose values under the plan are at most 1/m below `value`, at all states.
abbrev pub ReachesUnder : Query → List (Option ℕ) → (ℕ → ℕ) → Type 0
ReachesUnder q plan value = (m : ℕ) → 1 ≤ m → (k : ℕ) × ((s : ℕ) → s < length q.game →
    m * value s * denominator q.game ^ k ≤ unit * (m * numerator_under q Max plan k s + denominator q.game ^ k))
