-- This module says what the texts of a run say, one after another.
use Rattle.std.specs.Prelude.{Result, Ok, Err}
use Rattle.output.specs.declared.refusal.Refusal.{Refusal}

-- Texts say something, or a text that is needed is not held, or there is a first refusal.
pub data Said (X : Type 0) : Type 0 where
  NotHeld : Said X
  Refuses : Refusal → Said X
  Denoted : X → Said X

-- What is said next depends on what was said before. The first text that is not held, or the first refusal, ends it.
abbrev pub and_then : {X Y : Type 0} → Said X → (X → Said Y) → Said Y
and_then NotHeld next = NotHeld
and_then (Refuses refusal) next = Refuses refusal
and_then (Denoted x) next = next x

-- A reader says this of a text, and its faults are refusals of this kind.
abbrev pub read_said : {X F : Type 0} → (F → Refusal) → Result X F → Said X
read_said refusal (Ok x) = Denoted x
read_said refusal (Err fault) = Refuses (refusal fault)
