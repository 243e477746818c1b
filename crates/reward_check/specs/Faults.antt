-- This module defines the first fault of a certificate of rewards.
use Rattle.std.specs.Prelude.{◌≡◌, ℕ, ◌+◌, ◌*◌, ◌<◌, ◌⊎◌, true, slice_index}
use Rattle.game_model.specs.Game.{Distribution, choice_of}
use Rattle.game_model.specs.Query.{states, is_goal, side_at}
use Rattle.game_model.specs.Values.{weighted_sum}
use Rattle.expected_rewards.specs.Tables.{StaysFinite, LeadsAway, Sinks, Lingers}
use Rattle.reward_check.specs.declared.check.RewardCause.{RewardCause}
use Rattle.reward_check.specs.declared.check.RewardCause.TheVariants.{Goal, Reply, Leaves, Above, NoStep, Choice, Short}
use Rattle.reward_check.specs.declared.check.RewardCause.TheVariants.{Away}
use Rattle.reward_check.specs.declared.parts.Part.{Part}
use Rattle.reward_check.specs.declared.parts.Part.TheVariants.{Upper, Ranks, Lower, Infinite}
use Rattle.reward_check.specs.Certificates.{Certificate}
use Rattle.reward_check.specs.Parts.{HasZeros, GoalsHaveZeros, planner_of, LooksAt, HasChoice, HasPlan, IsTaken}
use Rattle.reward_check.specs.Parts.{LeadsDown, IsRight, IsPassedAt, IsPassed}

-- The reward of the choice plus its weighted average over a table is above an entry.
abbrev pub IsOver : (ℕ → ℕ) → ℕ → ℕ → Distribution → Type 0
IsOver table entry reward choice = entry * choice.total < reward * choice.total + weighted_sum table choice.edges

-- The reward of the choice plus its weighted average over a table is below an entry.
abbrev pub IsShort : (ℕ → ℕ) → ℕ → ℕ → Distribution → Type 0
IsShort table entry reward choice = reward * choice.total + weighted_sum table choice.edges < entry * choice.total

-- This is the first thing that a part finds lacking in a choice.
abbrev pub IsLackOf : Part → Certificate → ℕ → ℕ → RewardCause → Type 0
IsLackOf Upper c s k cause =
    ((cause ≡ Leaves k) × LeadsAway c.bounded (choice_of c.question.game s k))
    ⊎ ((cause ≡ Above k) × StaysFinite c.bounded (choice_of c.question.game s k)
    × IsOver c.upper (c.upper s) (c.high s k) (choice_of c.question.game s k))
IsLackOf Ranks c s k cause =
    (cause ≡ NoStep k) × ¬ LeadsDown (slice_index c.ranks) s (choice_of c.question.game s k)
IsLackOf Lower c s k cause =
    (cause ≡ Short k) × StaysFinite c.finite (choice_of c.question.game s k)
    × IsShort c.lower (c.lower s) (c.low s k) (choice_of c.question.game s k)
IsLackOf Infinite c s k cause =
    (cause ≡ Away k) × ¬ Sinks c.finite (slice_index c.ranks) s (choice_of c.question.game s k)
    × ¬ Lingers c.finite (slice_index c.ranks) s (choice_of c.question.game s k)

-- If a plan has no choice in range, this is the cause.
abbrev pub missing_of : Part → RewardCause
missing_of Upper = Reply
missing_of Ranks = Reply
missing_of Lower = Choice
missing_of Infinite = Choice

-- A part looks at a state where the planner is to move and has no choice in range.
pub record IsPlanless (part : Part) (c : Certificate) (s : ℕ) (cause : RewardCause) : Type 0 where
  pub looked : LooksAt part c s
  pub own : side_at c.question s ≡ planner_of part
  pub none : ¬ HasChoice part c s
  pub named : cause ≡ missing_of part

-- This is the first choice that is not right, of those that may be taken at a state that a part looks at, and it lacks
-- this.
pub record IsFirstWrong (part : Part) (c : Certificate) (s k : ℕ) (cause : RewardCause) : Type 0 where
  pub looked : LooksAt part c s
  pub planned : HasPlan part c s
  pub taken : IsTaken part c s k
  pub before : (j : ℕ) → j < k → IsTaken part c s j → IsRight part c s j
  pub lack : IsLackOf part c s k cause

-- This is the first state that a part does not pass, with the cause: the plan comes before the choices.
pub record IsFirstUnpassed (part : Part) (c : Certificate) (s : ℕ) (cause : RewardCause) : Type 0 where
  pub inside : s < states c.question
  pub before : (t : ℕ) → t < s → IsPassedAt part c t
  pub caused : IsPlanless part c s cause ⊎ ((k : ℕ) × IsFirstWrong part c s k cause)

-- This is the first goal whose values are not both 0.
pub record IsFirstGoalFault (c : Certificate) (s : ℕ) : Type 0 where
  pub inside : s < states c.question
  pub goal : is_goal c.question s ≡ true
  pub none : ¬ HasZeros c s
  pub before : (t : ℕ) → t < s → is_goal c.question t ≡ true → HasZeros c t

-- Each part has a place in their order.
abbrev pub place_of : Part → ℕ
place_of Upper = 0
place_of Ranks = 1
place_of Lower = 2
place_of Infinite = 3

-- Both values of each goal are 0, and this is the first state that does not pass the first part that fails.
pub record IsPartFault (c : Certificate) (s : ℕ) (cause : RewardCause) : Type 0 where
  pub goals : GoalsHaveZeros c
  pub part : Part
  pub before : (earlier : Part) → place_of earlier < place_of part → IsPassed earlier c
  pub first : IsFirstUnpassed part c s cause

-- A certificate has this one fault: goals come first.
abbrev pub IsRewardFault : Certificate → ℕ → RewardCause → Type 0
IsRewardFault c s cause = ((cause ≡ Goal) × IsFirstGoalFault c s) ⊎ IsPartFault c s cause
