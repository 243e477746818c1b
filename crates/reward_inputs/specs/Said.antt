-- This module says what the texts of a run with rewards say, one after another.
use Rattle.std.specs.Prelude.{Result, Ok, Err}
use Rattle.inputs.specs.Said.{Said}
use Rattle.inputs.specs.Said as plain
use Rattle.reward_refusals.specs.declared.refusal.RewardRefusal.{RewardRefusal}
use Rattle.reward_refusals.specs.declared.refusal.RewardRefusal.TheVariants.{Shared}

-- Texts say something, or a text that is needed is not held, or there is a first refusal.
pub data RewardSaid (X : Type 0) : Type 0 where
  NotHeld : RewardSaid X
  Refuses : RewardRefusal → RewardSaid X
  Denoted : X → RewardSaid X

-- What is said next depends on what was said before. The first text that is not held, or the first refusal, ends it.
abbrev pub and_then : {X Y : Type 0} → RewardSaid X → (X → RewardSaid Y) → RewardSaid Y
and_then NotHeld next = NotHeld
and_then (Refuses refusal) next = Refuses refusal
and_then (Denoted x) next = next x

-- A run with rewards says the same as one without.
abbrev pub shared_said : {X : Type 0} → Said X → RewardSaid X
shared_said plain.NotHeld = NotHeld
shared_said (plain.Refuses refusal) = Refuses (Shared refusal)
shared_said (plain.Denoted x) = Denoted x

-- A reader says this of a text, and its faults are refusals of this kind.
abbrev pub read_said : {X F : Type 0} → (F → RewardRefusal) → Result X F → RewardSaid X
read_said refusal (Ok x) = Denoted x
read_said refusal (Err fault) = Refuses (refusal fault)
