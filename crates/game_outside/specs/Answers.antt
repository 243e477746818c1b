-- This module defines what a call answers that takes memory.
use Rattle.std.specs.Prelude.{◌≡◌, ◌⊎◌, Result, Ok, Err}

-- The answer, seen by `view`, is `said`, or memory ran out.
abbrev pub AnswersOrWants : {X Y Fault : Type 0} → (Fault → Type 0) → (X → Y) → Result X Fault → Result Y Fault → Type 0
AnswersOrWants IsOutOfMemory view (Ok x) said = said ≡ Ok (view x)
AnswersOrWants IsOutOfMemory view (Err fault) said = IsOutOfMemory fault ⊎ (said ≡ Err fault)
