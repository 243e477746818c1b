-- This module defines what a check needs of the goals, and part by part of the choices of other states.
use Rattle.std.specs.Prelude.{◌≡◌, ℕ, ◌<◌, ◌⊎◌, true, false, List, length, slice_index, slice_index_or}
use Rattle.std.specs.Prelude.{Option, Some, None, IsSomeAnd}
use Rattle.game_model.specs.declared.game.Side.{Side}
use Rattle.game_model.specs.declared.game.Side.TheVariants.{Max, Min}
use Rattle.game_model.specs.Game.{Distribution, choices_of, choice_of, no_edge}
use Rattle.game_model.specs.Query.{states, is_goal, side_at}
use Rattle.expected_rewards.specs.Tables.{is_finite, IsOpen, StaysFinite, LeadsAway, IsCovered, IsPaid}
use Rattle.expected_rewards.specs.Tables.{Sinks, Lingers}
use Rattle.reward_check.specs.declared.parts.Part.{Part}
use Rattle.reward_check.specs.declared.parts.Part.TheVariants.{Upper, Ranks, Lower, Infinite}
use Rattle.reward_check.specs.Certificates.{Certificate}

-- Both values of a state are 0.
pub record HasZeros (c : Certificate) (s : ℕ) : Type 0 where
  pub finite : is_finite c.finite s ≡ true
  pub lower : c.lower s ≡ 0
  pub bounded : is_finite c.bounded s ≡ true
  pub upper : c.upper s ≡ 0

-- Both values of each goal are 0.
abbrev pub GoalsHaveZeros : Certificate → Type 0
GoalsHaveZeros c = (s : ℕ) → s < states c.question → is_goal c.question s ≡ true → HasZeros c s

-- A part is about the plan of this side.
abbrev pub planner_of : Part → Side
planner_of Upper = Min
planner_of Ranks = Min
planner_of Lower = Max
planner_of Infinite = Max

-- A part is about this plan.
abbrev pub plan_of : Part → Certificate → List (Option ℕ)
plan_of Upper c = c.replies
plan_of Ranks c = c.replies
plan_of Lower c = c.choices
plan_of Infinite c = c.choices

-- A part looks only at open states. The first two parts look at those with an upper value, the third at those whose
-- lower value is a number above 0, and the last at those of infinite lower value.
abbrev pub LooksAt : Part → Certificate → ℕ → Type 0
LooksAt Upper c s = IsOpen c.question s × (is_finite c.bounded s ≡ true)
LooksAt Ranks c s = IsOpen c.question s × (is_finite c.bounded s ≡ true)
LooksAt Lower c s = IsOpen c.question s × (is_finite c.finite s ≡ true) × (0 < c.lower s)
LooksAt Infinite c s = IsOpen c.question s × (is_finite c.finite s ≡ false)

-- The plan has a choice in range.
abbrev pub HasChoice : Part → Certificate → ℕ → Type 0
HasChoice part c s =
    IsSomeAnd (slice_index_or (plan_of part c) s None) (λ k. k < length (choices_of c.question.game s))

-- The plan has a choice in range if the planner is to move.
abbrev pub HasPlan : Part → Certificate → ℕ → Type 0
HasPlan part c s = side_at c.question s ≡ planner_of part → HasChoice part c s

-- The choice may be taken. At the planner's states it is the planned one; at the other side's states it is any.
abbrev pub IsTaken : Part → Certificate → ℕ → ℕ → Type 0
IsTaken part c s k = (k < length (choices_of c.question.game s))
    × (side_at c.question s ≡ planner_of part → slice_index_or (plan_of part c) s None ≡ Some k)

-- Some successor of the choice has a smaller rank.
pub record LeadsDown (rank : ℕ → ℕ) (s : ℕ) (choice : Distribution) : Type 0 where
  pub place : ℕ
  pub inside : place < length choice.edges
  pub down : rank (slice_index_or choice.edges place no_edge).to < rank s

-- A part asks this of a choice. For the upper values each successor has one, and the choice is covered with its reward
-- rounded up. For the ranks some successor has a smaller rank. For the lower values some successor has an infinite one,
-- or the choice pays the entry with its reward rounded down. For the infinite ones the choice sinks or lingers.
abbrev pub IsRight : Part → Certificate → ℕ → ℕ → Type 0
IsRight Upper c s k = StaysFinite c.bounded (choice_of c.question.game s k)
    × IsCovered c.upper (c.upper s) (c.high s k) (choice_of c.question.game s k)
IsRight Ranks c s k = LeadsDown (slice_index c.ranks) s (choice_of c.question.game s k)
IsRight Lower c s k = LeadsAway c.finite (choice_of c.question.game s k)
    ⊎ IsPaid c.lower (c.lower s) (c.low s k) (choice_of c.question.game s k)
IsRight Infinite c s k = Sinks c.finite (slice_index c.ranks) s (choice_of c.question.game s k)
    ⊎ Lingers c.finite (slice_index c.ranks) s (choice_of c.question.game s k)

-- A part passes a state: it does not look at it, or there is a plan and each choice that may be taken is right.
pub record IsPassedAt (part : Part) (c : Certificate) (s : ℕ) : Type 0 where
  pub planned : LooksAt part c s → HasPlan part c s
  pub right : LooksAt part c s → (k : ℕ) → IsTaken part c s k → IsRight part c s k

-- A part passes each state.
abbrev pub IsPassed : Part → Certificate → Type 0
IsPassed part c = (s : ℕ) → s < states c.question → IsPassedAt part c s

-- A certificate is accepted if both values of each goal are 0 and every part passes each state.
pub record IsAccepted (c : Certificate) : Type 0 where
  pub goals : GoalsHaveZeros c
  pub parts : (part : Part) → IsPassed part c
