-- This module defines what a ranked table needs at one state.
use Rattle.std.specs.Prelude.{◌≡◌, ℕ, ◌*◌, ◌<◌, ◌≤◌, ◌⊎◌, true, List, length, slice_index_or, Option, None, IsSomeAnd}
use Rattle.game_model.specs.declared.game.Side.TheVariants.{Max, Min}
use Rattle.game_model.specs.Game.{Distribution, choices_of, choice_of, no_edge}
use Rattle.game_model.specs.Query.{Query, is_goal, is_dead, side_at}
use Rattle.game_model.specs.Values.{weighted_sum}
use Rattle.game_model.specs.Limits.{unit}
use Rattle.game_model.specs.Ranks.{IsRankedChoice, HasRankedChoice}
use Rattle.fixed_bellman.specs.Given.{IsFree}

-- The weighted average of the choice is at least the value of the state.
abbrev pub IsEnough : (ℕ → ℕ) → ℕ → Distribution → Type 0
IsEnough value s choice = value s * choice.total ≤ weighted_sum value choice.edges

-- The weighted average of the choice is below the value of the state.
abbrev pub IsShort : (ℕ → ℕ) → ℕ → Distribution → Type 0
IsShort value s choice = weighted_sum value choice.edges < value s * choice.total

-- The second state has a greater value than the first, or an equal value and a smaller rank.
abbrev pub IsOnward : (ℕ → ℕ) → (ℕ → ℕ) → ℕ → ℕ → Type 0
IsOnward value rank s t = (value s < value t) ⊎ ((value t ≡ value s) × (rank t < rank s))

-- A successor of the choice has a greater value than the state, or an equal value and a smaller rank.
pub record LeadsOnward (value rank : ℕ → ℕ) (s : ℕ) (choice : Distribution) : Type 0 where
  pub place : ℕ
  pub inside : place < length choice.edges
  pub onward : IsOnward value rank s (slice_index_or choice.edges place no_edge).to

-- The state has a positive value and is neither goal nor dead.
pub record NeedsRank (q : Query) (value : ℕ → ℕ) (s : ℕ) : Type 0 where
  pub free : IsFree q s
  pub positive : 0 < value s

-- A choice is given, and it is in range.
abbrev pub HasChoice : Query → List (Option ℕ) → ℕ → Type 0
HasChoice q choices s = IsSomeAnd (slice_index_or choices s None) (λ choice. choice < length (choices_of q.game s))

-- Value, choice and rank are accepted at this state.
pub record IsRankedAt (q : Query) (value rank : ℕ → ℕ) (choices : List (Option ℕ)) (s : ℕ) : Type 0 where
  pub goal : is_goal q s ≡ true → value s ≡ unit
  pub dead : is_dead q s ≡ true → value s ≡ 0
  pub greatest : NeedsRank q value s → side_at q s ≡ Max → HasRankedChoice q value rank choices s
  pub least : NeedsRank q value s → side_at q s ≡ Min → (c : ℕ) → c < length (choices_of q.game s)
      → IsRankedChoice value rank s (choice_of q.game s c)
