-- These definitions give the first fault of a file of values.
use Rattle.std.specs.Prelude.{ℕ, ◌==◌, ◌||◌, ◌+◌, nat_lt, Bool, false, List, [], ◌∷◌, length, Option, Some, None}
use Rattle.std.specs.Prelude.{Result, Ok, Err, slice_index_or, if◌then◌else◌}
use Rattle.text_lines.specs.Text.{lines_of, fields_of, is_nil}
use Rattle.values_reader.specs.declared.fault.ValuesCause.{ValuesCause}
use Rattle.values_reader.specs.declared.fault.ValuesCause.TheVariants.{BadField, StateOutOfRange, DoubleState}
use Rattle.values_reader.specs.declared.fault.ValuesCause.TheVariants.{LineCount}
use Rattle.values_reader.specs.declared.fault.ValuesFault.{ValuesFault}
use Rattle.values_reader.specs.Lines.{is_value, state_of, names_state}

-- This is the fault of a line, by its number, which counts from 1. A fault of line 0 belongs to no single line.
abbrev pub fault_at : ℕ → ValuesCause → ValuesFault
fault_at line cause = record { line = line; cause = cause }

-- A line has its number.
pub record Line : Type 0 where
  pub number : ℕ
  pub bytes : List ℕ

-- These are the lines that are not blank, with their numbers. The first of all lines has this number.
abbrev pub counted : ℕ → List (List ℕ) → List Line
counted number [] = []
counted number (line ∷ lines) = if is_nil (fields_of line) then counted
    (number + 1) lines else record { number = number; bytes = line } ∷ counted (number + 1) lines

-- 1. Each line has one number.

-- This is the fault of the first line that is no number.
abbrev pub first_bad : List Line → Option ValuesFault
first_bad [] = None
first_bad (line ∷ lines) = if is_value line.bytes then first_bad lines else Some (fault_at line.number BadField)

-- This is the fault of a line if one has a fault. Otherwise, if the lines are not as many as the states, it is that of
-- the whole text.
abbrev pub or_count : Bool → Option ValuesFault → Option ValuesFault
or_count as_many (Some fault) = Some fault
or_count as_many None = if as_many then None else Some (fault_at 0 LineCount)

-- This is the first fault, unless each line is a number and there are as many lines as states.
abbrev pub fault_in_order : ℕ → List Line → Option ValuesFault
fault_in_order n lines = or_count (length lines == n) (first_bad lines)

-- 2. Each line has a state and a number.

-- This is the state of a line, which is below n and not named before, or the cause why there is none.
abbrev pub new_state : ℕ → (ℕ → Bool) → Option ℕ → Result ℕ ValuesCause
new_state n named None = Err BadField
new_state n named (Some state) = if nat_lt state n then (if named state then Err DoubleState else Ok state) else Err
    StateOutOfRange

-- The state is this one, or is named before.
abbrev pub with_state : ℕ → (ℕ → Bool) → ℕ → Bool
with_state state named other = other == state || named other

-- This is the fault at the line of this number, or that of the lines behind it.
abbrev pub then_at : ℕ → Result ℕ ValuesCause → (ℕ → Option ValuesFault) → Option ValuesFault
then_at number (Ok state) next = next state
then_at number (Err cause) next = Some (fault_at number cause)

-- This is the first fault, unless each line is a state below n and a number, and no state occurs twice or is named
-- before.
abbrev pub fault_of_named : ℕ → (ℕ → Bool) → List Line → Option ValuesFault
fault_of_named n named [] = None
fault_of_named n named (line ∷ lines) = then_at line.number (new_state n named (state_of line.bytes))
    (λ state. fault_of_named n (with_state state named) lines)

-- 3. These definitions are about the whole text.

-- The first line says which form all lines have. Without a line it is the first form.
abbrev pub fault_of_lines : ℕ → List Line → Option ValuesFault
fault_of_lines n [] = fault_in_order n []
fault_of_lines n (line ∷ lines) = if names_state line.bytes then fault_of_named n (λ state. false)
    (line ∷ lines) else fault_in_order n (line ∷ lines)

-- This is the first fault of a text, or none if it gives values of n states.
abbrev pub fault_of : ℕ → List ℕ → Option ValuesFault
fault_of n text = fault_of_lines n (counted 1 (lines_of text))

-- The state is marked.
abbrev pub marked : List Bool → ℕ → Bool
marked marks state = slice_index_or marks state false
