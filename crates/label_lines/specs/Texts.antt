-- These definitions give what a whole text says, or its first fault.
use Rattle.std.specs.Prelude.{◌≡◌, ◌≢◌, ◌==◌, ◌+◌, ◌⊎◌, ℕ, Bool, List, [], ◌∷◌, map, unwrap_or, Result, Ok, Err}
use Rattle.std.specs.List.{list_any, range_with_len}
use Rattle.text_lines.specs.Text.{lines_of, fields_of, significant}
use Rattle.label_lines.specs.declared.kind.FileKind.{FileKind}
use Rattle.label_lines.specs.declared.kind.FileKind.TheVariants.{LabelFile, OwnerFile}
use Rattle.label_lines.specs.declared.faults.LabFault.{LabFault}
use Rattle.label_lines.specs.declared.faults.LabCause.{LabCause}
use Rattle.label_lines.specs.declared.faults.LabCause.TheVariants.{OutOfMemory, NoHeader}
use Rattle.label_lines.specs.Header.{Item, place_of, header_of}
use Rattle.label_lines.specs.Lines.{StateLine, said_of, add_line}
use Rattle.label_lines.specs.Labels.{Label, Labelling}
use Rattle.label_lines.specs.Owners.{Ownership}

-- This is the fault of a line, by its number, which counts from 1. A fault of line 0 belongs to no line.
abbrev pub fault_at : ℕ → LabCause → LabFault
fault_at line cause = record { line = line; cause = cause }

-- The next step goes on with a line of this number if it has no fault.
abbrev pub then_at : {X Y : Type 0} → ℕ → Result X LabCause → (X → Result Y LabFault) → Result Y LabFault
then_at number (Ok x) next = next x
then_at number (Err cause) next = Err (fault_at number cause)

-- These are the lines before and those of this list, the first of which has this number, or the first fault.
abbrev pub lines_from : FileKind → ℕ → List Item → List StateLine → ℕ → List (List ℕ) → Result (List StateLine) LabFault
lines_from kind n items before number [] = Ok before
lines_from kind n items before number (line ∷ lines) =
    then_at number (add_line kind n items before line) (λ read. lines_from kind n items read (number + 1) lines)

-- This is a value made of what was read, or the fault.
abbrev pub made_of : {X Y : Type 0} → (X → Y) → Result X LabFault → Result Y LabFault
made_of make (Ok x) = Ok (make x)
made_of make (Err fault) = Err fault

-- This is a value made of the items of a text's header and the lines behind it, or the first fault.
abbrev pub said_by_lines : {Y : Type 0} → FileKind → ℕ → (List Item → List StateLine → Y) → List (List ℕ)
    → Result Y LabFault
said_by_lines kind n make [] = Err (fault_at 1 NoHeader)
said_by_lines kind n make (header ∷ lines) =
    then_at 1 (header_of kind (fields_of header)) (λ items. made_of (make items) (lines_from kind n items [] 2 lines))

-- This is a value made of what a text says, or its first fault. Blank lines at the end say nothing.
abbrev pub said_by : {Y : Type 0} → FileKind → ℕ → (List Item → List StateLine → Y) → List ℕ → Result Y LabFault
said_by kind n make text = said_by_lines kind n make (significant (lines_of text))

-- The lines say the number of the state.
abbrev pub is_said : List StateLine → ℕ → ℕ → Bool
is_said lines number state = list_any (λ other. other == number) (said_of lines state)

-- This is the label of an item, with its marks at n states.
abbrev pub label_from : ℕ → List StateLine → Item → Label
label_from n lines item = record { name = item.name; marks = map (is_said lines item.index) (range_with_len 0 n) }

-- These are the labels of the header at n states. Each holds at the states of which some line says its index.
abbrev pub labelling : ℕ → List Item → List StateLine → Labelling
labelling n items lines = record { states = n; labels = map (label_from n lines) items }

-- These are the labels that a text denotes, or its first fault.
abbrev pub labels_of : List ℕ → ℕ → Result Labelling LabFault
labels_of text n = said_by LabelFile n (labelling n) text

-- This is the place of the player whose index is the first of the numbers, or of the first player if there is none.
abbrev pub owner_place : List Item → List ℕ → ℕ
owner_place items [] = 0
owner_place items (number ∷ numbers) = unwrap_or (place_of items number) 0

-- These are the players of the header, and for each of n states its owner: the first player that is said of it, or the
-- first of all if none is said.
abbrev pub ownership : ℕ → List Item → List StateLine → Ownership
ownership n items lines = record {
  players = map (λ item. item.name) items;
  owners = map (λ state. owner_place items (said_of lines state)) (range_with_len 0 n);
}

-- These are the owners that a text denotes, or its first fault.
abbrev pub owners_of : List ℕ → ℕ → Result Ownership LabFault
owners_of text n = said_by OwnerFile n (ownership n) text

-- Memory ran out, which is no fault of the text.
abbrev pub IsOutOfMemory : LabFault → Type 0
IsOutOfMemory fault = fault ≡ fault_at 0 OutOfMemory

-- The cause is that memory ran out. Its line is not known yet.
abbrev pub IsOutOfMemoryCause : LabCause → Type 0
IsOutOfMemoryCause cause = cause ≡ OutOfMemory

-- This is the fault of a header with this cause. If memory ran out, it has line 0.
abbrev pub GivesFault : LabCause → LabFault → Type 0
GivesFault cause fault = IsOutOfMemory fault × (cause ≡ OutOfMemory) ⊎ (fault ≡ fault_at 1 cause)
    × (cause ≢ OutOfMemory)
