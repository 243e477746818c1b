-- Each line behind the header is a state and numbers.
use Rattle.std.specs.Prelude.{◌==◌, ℕ, nat_lt, Bool, true, List, [], ◌∷◌, ◌++◌, map, Option, Some, None, is_some}
use Rattle.std.specs.Prelude.{unwrap_or, if◌then◌else◌, Result, Ok, Err}
use Rattle.std.specs.List.{list_all}
use Rattle.text_lines.specs.Text.{fields_of, number_of}
use Rattle.label_lines.specs.declared.kind.FileKind.{FileKind}
use Rattle.label_lines.specs.declared.kind.FileKind.TheVariants.{LabelFile, OwnerFile}
use Rattle.label_lines.specs.declared.faults.LabCause.{LabCause}
use Rattle.label_lines.specs.declared.faults.LabCause.TheVariants.{BadField, StateOutOfRange, UnknownIndex, TwoOwners}
use Rattle.label_lines.specs.Header.{Item, has_index, has_place, and_then}
use Rattle.text_lines.specs.Parts.{split_first}

-- A line has a state, and the numbers that are said of it.
pub record StateLine : Type 0 where
  pub state : ℕ
  pub numbers : List ℕ

-- The field is a whole number.
abbrev pub is_number : List ℕ → Bool
is_number field = is_some (number_of field)

-- This is the number that a field spells, and 0 if it spells none.
abbrev pub number_in : List ℕ → ℕ
number_in field = unwrap_or (number_of field) 0

-- This is the number that the fields spell, if there is just one field.
abbrev pub only_number : List (List ℕ) → Option ℕ
only_number (field ∷ []) = number_of field
only_number fields = None

-- This is the line of this state and of the numbers of the fields, if each field spells one.
abbrev pub numbered : Option ℕ → List (List ℕ) → Option StateLine
numbered None fields = None
numbered (Some state) fields = if list_all is_number fields then Some
    (record { state = state; numbers = map number_in fields }) else None

-- This is the line whose state is all that is before the colon, and whose numbers are behind it.
abbrev pub line_parts : Option (List ℕ × List ℕ) → Option StateLine
line_parts None = None
line_parts (Some parts) = numbered (only_number (fields_of parts.0)) (fields_of parts.1)

-- A line is a number, a colon, and numbers.
abbrev pub state_line : List ℕ → Option StateLine
state_line line = line_parts (split_first 58 line)

-- This is the line if its state is in range and its numbers are indices of the header. Otherwise it is the first fault.
abbrev pub known_line : ℕ → List Item → Option StateLine → Result StateLine LabCause
known_line n items None = Err BadField
known_line n items (Some line) = if nat_lt line.state n then
    (if list_all (has_index items) line.numbers then Ok line else Err UnknownIndex) else Err StateOutOfRange

-- These are all numbers that the lines say of a state.
abbrev pub said_of : List StateLine → ℕ → List ℕ
said_of [] state = []
said_of (line ∷ lines) state = if line.state == state then line.numbers ++ said_of lines state else said_of lines state

-- No two of the numbers differ.
abbrev pub all_same : List ℕ → Bool
all_same [] = true
all_same (number ∷ numbers) = list_all (λ other. other == number) numbers

-- These are the lines with one more at the end, or the fault that a state of an owner file has two owners.
abbrev pub with_line : FileKind → List StateLine → StateLine → Result (List StateLine) LabCause
with_line LabelFile before line = Ok (before ++ line ∷ [])
with_line OwnerFile before line = if all_same (said_of (before ++ line ∷ []) line.state) then Ok
    (before ++ line ∷ []) else Err (TwoOwners line.state)

-- These are the lines before this one and the line itself, or its first fault.
abbrev pub add_line : FileKind → ℕ → List Item → List StateLine → List ℕ → Result (List StateLine) LabCause
add_line kind n items before line = and_then (known_line n items (state_line line)) (with_line kind before)

-- The fields spell indices of the header, or this is their first fault.
abbrev pub known_fields : List Item → List (List ℕ) → Result (Unit {0}) LabCause
known_fields items fields = if list_all is_number fields then
    (if list_all (has_place items) fields then Ok tt else Err UnknownIndex) else Err BadField
