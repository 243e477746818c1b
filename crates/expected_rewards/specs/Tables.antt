-- This module defines what is asked of tables of rewards at each state.
use Rattle.std.specs.Prelude.{◌≡◌, ℕ, ◌+◌, ◌*◌, ◌<◌, ◌≤◌, ◌⊎◌}
use Rattle.std.specs.Prelude.{Bool, true, false, List, length, slice_index_or, All, Option}
use Rattle.game_model.specs.declared.game.Side.{Side}
use Rattle.game_model.specs.declared.game.Side.TheVariants.{Max, Min}
use Rattle.game_model.specs.Game.{Distribution, choices_of, choice_of, no_edge}
use Rattle.game_model.specs.Query.{Query, states, is_goal, is_dead, side_at}
use Rattle.game_model.specs.Values.{weighted_sum}
use Rattle.game_model.specs.Plans.{planned_place}
use Rattle.expected_rewards.specs.Rewards.{Rewards}

-- The reward from this state is claimed to be finite.
abbrev pub is_finite : List Bool → ℕ → Bool
is_finite finite s = slice_index_or finite s false

-- An open state is neither goal nor dead.
abbrev pub IsOpen : Query → ℕ → Type 0
IsOpen q s = (s < states q) × (is_goal q s ≡ false) × (is_dead q s ≡ false)

-- This choice may be taken if the side plays a plan: the planned choice at its own states, any choice at the others.
abbrev pub MayBeTaken : Query → Side → List (Option ℕ) → ℕ → ℕ → Type 0
MayBeTaken q side plan s c = (c < length (choices_of q.game s))
    × (side_at q s ≡ side → c ≡ planned_place plan s (length (choices_of q.game s)))

-- All successors of a choice are finite.
abbrev pub StaysFinite : List Bool → Distribution → Type 0
StaysFinite finite choice = All (λ e. is_finite finite e.to ≡ true) choice.edges

-- The reward of a choice and the weighted average of the table after it are together at most an entry.
abbrev pub IsCovered : (ℕ → ℕ) → ℕ → ℕ → Distribution → Type 0
IsCovered table entry reward choice = reward * choice.total + weighted_sum table choice.edges ≤ entry * choice.total

-- The reward of a choice and the weighted average of the table after it are together at least an entry.
abbrev pub IsPaid : (ℕ → ℕ) → ℕ → ℕ → Distribution → Type 0
IsPaid table entry reward choice = entry * choice.total ≤ reward * choice.total + weighted_sum table choice.edges

-- The minimiser plays replies. From a finite open state each choice that may be taken leads to finite states only, and
-- is covered.
pub record IsUpperAt (q : Query) (rewards : Rewards) (finite : List Bool) (replies : List (Option ℕ)) (upper : ℕ → ℕ)
    (s : ℕ) : Type 0 where
  pub each : IsOpen q s → is_finite finite s ≡ true → (c : ℕ) → MayBeTaken q Min replies s c
      → StaysFinite finite (choice_of q.game s c) × IsCovered upper (upper s) (rewards s c) (choice_of q.game s c)

-- If the minimiser plays the replies, the table is an upper table: `IsUpperAt` holds at each state.
abbrev pub IsUpperTable : Query → Rewards → List Bool → List (Option ℕ) → (ℕ → ℕ) → Type 0
IsUpperTable q rewards finite replies upper = (s : ℕ) → s < states q → IsUpperAt q rewards finite replies upper s

-- A choice has a successor that is not finite.
abbrev pub LeadsAway : List Bool → Distribution → Type 0
LeadsAway finite choice = (p : ℕ) × (p < length choice.edges)
    × (is_finite finite (slice_index_or choice.edges p no_edge).to ≡ false)

-- The maximiser plays choices. A goal has 0, and from a finite open state each choice that may be taken pays the entry,
-- or leads away with a positive probability.
pub record IsLowerAt (q : Query) (rewards : Rewards) (finite : List Bool) (choices : List (Option ℕ)) (lower : ℕ → ℕ)
    (s : ℕ) : Type 0 where
  pub goal : is_goal q s ≡ true → lower s ≡ 0
  pub each : IsOpen q s → is_finite finite s ≡ true → (c : ℕ) → MayBeTaken q Max choices s c
      → LeadsAway finite (choice_of q.game s c) ⊎ IsPaid lower (lower s) (rewards s c) (choice_of q.game s c)

-- If the maximiser plays the choices, the table is a lower table: `IsLowerAt` holds at each state.
abbrev pub IsLowerTable : Query → Rewards → List Bool → List (Option ℕ) → (ℕ → ℕ) → Type 0
IsLowerTable q rewards finite choices lower = (s : ℕ) → s < states q → IsLowerAt q rewards finite choices lower s

-- A choice leads, with a positive probability, to a state that is not finite and has a smaller rank.
pub record Sinks (finite : List Bool) (rank : ℕ → ℕ) (s : ℕ) (choice : Distribution) : Type 0 where
  pub place : ℕ
  pub inside : place < length choice.edges
  pub away : is_finite finite (slice_index_or choice.edges place no_edge).to ≡ false
  pub down : rank (slice_index_or choice.edges place no_edge).to < rank s

-- A choice surely leads to states that are not finite and whose rank is no greater.
abbrev pub Lingers : List Bool → (ℕ → ℕ) → ℕ → Distribution → Type 0
Lingers finite rank s choice = All (λ e. (is_finite finite e.to ≡ false) × (rank e.to ≤ rank s)) choice.edges

-- The maximiser plays choices. A goal is finite, and from an open state that is not finite each choice that may be
-- taken sinks or lingers.
pub record IsAwayAt (q : Query) (finite : List Bool) (choices : List (Option ℕ)) (rank : ℕ → ℕ) (s : ℕ) : Type 0 where
  pub goal : is_goal q s ≡ true → is_finite finite s ≡ true
  pub each : IsOpen q s → is_finite finite s ≡ false → (c : ℕ) → MayBeTaken q Max choices s c
      → Sinks finite rank s (choice_of q.game s c) ⊎ Lingers finite rank s (choice_of q.game s c)

-- If the maximiser plays the choices, these are ranks of the states that are not finite: `IsAwayAt` holds at each
-- state.
abbrev pub AreAwayRanks : Query → List Bool → List (Option ℕ) → (ℕ → ℕ) → Type 0
AreAwayRanks q finite choices rank = (s : ℕ) → s < states q → IsAwayAt q finite choices rank s
