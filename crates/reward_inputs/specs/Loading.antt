-- This module says what loading answers for the texts of a run with rewards.
use Rattle.std.specs.Prelude.{◌≡◌, ◌<◌, ◌≤◌, ◌+◌, ◌⊎◌, ℕ, Bool, true, List, Option, Result, Ok, Err, IsErrOf}
use Rattle.text_lines.specs.Limits.{most_bytes}
use Rattle.fractions.specs.Fraction.{Fraction}
use Rattle.game_model.specs.Game.{Distribution}
use Rattle.game_outside.specs.Limits.{piece_size}
use Rattle.game_outside.specs.Outside.{Holding, Rose, KeepsShelf}
use Rattle.rewards_reader.specs.declared.line.RewardLine.{RewardLine}
use Rattle.rewards_reader.specs.Rewards.{HasRewards}
use Rattle.output.specs.declared.refusal.Refusal.TheVariants.{TooLong}
use Rattle.inputs.specs.declared.load.End.{End}
use Rattle.inputs.specs.declared.load.End.TheVariants as plain
use Rattle.inputs.specs.Sources.{IfKnown}
use Rattle.reward_refusals.specs.declared.refusal.RewardRefusal.{RewardRefusal}
use Rattle.reward_refusals.specs.declared.refusal.RewardRefusal.TheVariants.{Shared, RewardsTooLong}
use Rattle.reward_refusals.specs.Caused.{IsRewardCaused}
use Rattle.reward_inputs.specs.declared.end.RewardEnd.{RewardEnd}
use Rattle.reward_inputs.specs.declared.end.RewardEnd.TheVariants.{OutOfMemory, ReadFault, Refused}
use Rattle.reward_inputs.specs.Said.{RewardSaid, NotHeld, Refuses, Denoted}
use Rattle.reward_inputs.specs.Texts.{rewards_said}

-- Loading with rewards ends in this way if loading without them does.
abbrev pub reward_end : End → RewardEnd
reward_end plain.OutOfMemory = OutOfMemory
reward_end plain.ReadFault = ReadFault
reward_end (plain.Refused refusal) = Refused (Shared refusal)

-- The answer is what is said, or memory ran out.
abbrev pub LoadsAs : {X Y : Type 0} → (X → Y) → Result X RewardEnd → RewardSaid Y → Type 0
LoadsAs view (Ok x) said = said ≡ Denoted (view x)
LoadsAs view (Err OutOfMemory) said = Unit {0}
LoadsAs view (Err ReadFault) said = said ≡ NotHeld
LoadsAs view (Err (Refused refusal)) said = said ≡ Refuses refusal

-- A source says lines, and a table has the rewards of these.
pub record GivesTable (game : List (List Distribution)) (source : Option (List ℕ)) (table : List (Option Fraction))
    : Type 0 where
  pub lines : List RewardLine
  pub said : rewards_said source game ≡ Denoted lines
  pub has : HasRewards game lines table

-- The answer has the rewards that the lines of a source give, or is what is said of it, or memory ran out.
abbrev pub AnswersRewards : List (List Distribution) → Option (List ℕ) → Result (List (Option Fraction)) RewardEnd
    → Type 0
AnswersRewards game source (Ok table) = GivesTable game source table
AnswersRewards game source (Err OutOfMemory) = Unit {0}
AnswersRewards game source (Err ReadFault) = rewards_said source game ≡ NotHeld
AnswersRewards game source (Err (Refused refusal)) = rewards_said source game ≡ Refuses refusal

-- The answer is that of a source. If the holding is known, the source is the one under the name, unless it can't be
-- read. On a steady shelf it always is.
pub record LoadsRewards (holding : Option Holding) (steady : Bool) (name : List ℕ) (game : List (List Distribution))
    (result : Result (List (Option Fraction)) RewardEnd) : Type 0 where
  pub source : Option (List ℕ)
  pub told : (IsErrOf result ReadFault → ⊥) → IfKnown holding (λ held. source ≡ held name)
  pub steadily : steady ≡ true → IfKnown holding (λ held. source ≡ held name)
  pub answers : AnswersRewards game source result

-- Loading refuses nothing because memory ran out.
abbrev pub RewardEndsCaused : {X : Type 0} → Result X RewardEnd → Type 0
RewardEndsCaused (Ok x) = Unit {0}
RewardEndsCaused (Err OutOfMemory) = Unit {0}
RewardEndsCaused (Err ReadFault) = Unit {0}
RewardEndsCaused (Err (Refused refusal)) = IsRewardCaused refusal

-- The refusal is that a text is too long.
abbrev pub IsLongRefusal : RewardRefusal → Type 0
IsLongRefusal (Shared (TooLong text)) = Unit {0}
IsLongRefusal RewardsTooLong = Unit {0}
IsLongRefusal refusal = ⊥

-- A text was too long.
abbrev pub IsLong : {X : Type 0} → Result X RewardEnd → Type 0
IsLong (Ok x) = ⊥
IsLong (Err OutOfMemory) = ⊥
IsLong (Err ReadFault) = ⊥
IsLong (Err (Refused refusal)) = IsLongRefusal refusal

-- A call that asks nothing of a shelf has no fault of reading, and refuses nothing because memory ran out and nothing
-- as too long.
pub record AsksNothing {X : Type 0} (result : Result X RewardEnd) : Type 0 where
  pub read : IsErrOf result ReadFault → ⊥
  pub caused : RewardEndsCaused result
  pub short : IsLong result → ⊥

-- This much is taken of the last text that loading reads. The text is refused as too long only if this is more than the
-- limit. If it is more, the text is refused as too long or memory runs out.
pub record RewardTakes {X : Type 0} (result : Result X RewardEnd) (taken : ℕ) : Type 0 where
  pub most : taken ≤ most_bytes + piece_size
  pub too_long : IsLong result → most_bytes < taken
  pub only_too_long : most_bytes < taken → IsLong result ⊎ IsErrOf result OutOfMemory

-- Loading does this to a shelf.
pub record RewardLoadingLeaves {S X : Type 0} (held : S → Option Holding) (steady : S → Bool) (faults took : S → ℕ)
    (old new : S) (result : Result X RewardEnd) : Type 0 where
  -- Loading has a fault of reading only if the shelf had one.
  pub read_fault : IsErrOf result ReadFault → Rose (faults old) (faults new)
  pub takes : RewardTakes result (took new)
  pub kept : KeepsShelf (held old) (held new) (steady old) (steady new) (faults old) (faults new)
