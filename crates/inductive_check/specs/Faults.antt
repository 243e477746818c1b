-- These definitions say what is wrong with an upper table.
use Rattle.std.specs.Prelude.{◌≡◌, ℕ, ◌<◌, ◌≤◌, true, List, slice_index, All}
use Rattle.game_model.specs.declared.game.Side.TheVariants.{Max, Min}
use Rattle.game_model.specs.Query.{Query, states, is_goal, side_at}
use Rattle.game_model.specs.Limits.{unit}
use Rattle.game_model.specs.Tables.{IsFirstOver}
use Rattle.game_model.specs.Rounded.{up_step}
use Rattle.fixed_bellman.specs.Given.{IsFree}
use Rattle.inductive_check.specs.declared.upper.UpperCause.{UpperCause}
use Rattle.inductive_check.specs.declared.upper.UpperCause.TheVariants.{OverOne, Goal, Above, NoReply, Reply}
use Rattle.inductive_check.specs.Held.{NoneHeld, IsFirstUnheld}

-- This is the first state whose up step is above its entry.
pub record IsFirstAbove (q : Query) (table : ℕ → ℕ) (s : ℕ) : Type 0 where
  pub inside : s < states q
  pub above : table s < up_step q table s
  pub before : (t : ℕ) → t < s → up_step q table t ≤ table t

-- The up step of a state is above its entry because it is a goal, or some choice of the maximiser is not held, or no
-- choice of the minimiser is.
abbrev pub IsCauseAt : Query → (ℕ → ℕ) → ℕ → UpperCause → Type 0
IsCauseAt q table s OverOne = ⊥
IsCauseAt q table s Goal = is_goal q s ≡ true
IsCauseAt q table s (Above choice) = IsFree q s × (side_at q s ≡ Max) × IsFirstUnheld q table s choice
IsCauseAt q table s NoReply = IsFree q s × (side_at q s ≡ Min) × NoneHeld q table s
IsCauseAt q table s Reply = ⊥

-- Entries are at most the unit, and this is the first state whose up step is above its entry, for this cause.
pub record IsNotInductiveAt (q : Query) (upper : List ℕ) (s : ℕ) (cause : UpperCause) : Type 0 where
  pub units : All (λ v. v ≤ unit) upper
  pub first : IsFirstAbove q (slice_index upper) s
  pub caused : IsCauseAt q (slice_index upper) s cause

-- An upper table has at most one fault: an entry above the unit comes first.
abbrev pub IsUpperFault : Query → List ℕ → ℕ → UpperCause → Type 0
IsUpperFault q upper s OverOne = IsFirstOver upper s
IsUpperFault q upper s Goal = IsNotInductiveAt q upper s Goal
IsUpperFault q upper s (Above choice) = IsNotInductiveAt q upper s (Above choice)
IsUpperFault q upper s NoReply = IsNotInductiveAt q upper s NoReply
IsUpperFault q upper s Reply = ⊥
