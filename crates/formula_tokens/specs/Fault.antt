-- These are the faults of a text.
use Rattle.std.specs.Prelude.{◌≡◌, ℕ, Result, Ok, Err}
use Rattle.formula_tokens.specs.declared.fault.FormulaFault.{FormulaFault}
use Rattle.formula_tokens.specs.declared.fault.FormulaCause.{FormulaCause}
use Rattle.formula_tokens.specs.declared.fault.FormulaCause.TheVariants.{OutOfMemory}

-- This is the fault of this cause, at the token that begins this many bytes into the text.
abbrev pub fault_at : ℕ → FormulaCause → FormulaFault
fault_at place cause = record { place = place; cause = cause }

-- Memory ran out, which is no fault of the text.
abbrev pub IsOutOfMemory : FormulaFault → Type 0
IsOutOfMemory fault = fault ≡ fault_at 0 OutOfMemory

-- The result, seen by `view`, is the one that is said.
abbrev pub IsResult : {X Y : Type 0} → (X → Y) → Result X FormulaFault → Result Y FormulaFault → Type 0
IsResult view (Ok x) said = said ≡ Ok (view x)
IsResult view (Err fault) said = said ≡ Err fault

-- The second reading goes on from what the first one read. A fault of the first is the answer.
infixl 10 ◌>>=◌
abbrev pub ◌>>=◌ : {X Y : Type 0} → Result X FormulaFault → (X → Result Y FormulaFault) → Result Y FormulaFault
(Ok x) >>= f = f x
(Err fault) >>= f = Err fault
