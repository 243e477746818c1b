-- These definitions say what readers of transition lines hold, and which answers are right for the lines to come.
use Rattle.std.specs.Prelude.{◌≡◌, ◌<◌, ◌⊎◌, ℕ, List, [], ◌∷◌, ◌++◌, length, Option, Some, None, Result, Ok, Err, true}
use Rattle.std.specs.Prelude.{false}
use Rattle.std.specs.Borrow.{Bor}
use Rattle.std.specs.Option.{ForSome}
use Rattle.text_lines.specs.Text.{fields_of}
use Rattle.game_model.specs.Game.{Distribution}
use Rattle.transition_lines.specs.declared.header.Header.{Header}
use Rattle.transition_lines.specs.declared.line.Transition.{Transition}
use Rattle.transition_lines.specs.declared.fault.TraCause.{TraCause}
use Rattle.transition_lines.specs.declared.fault.TraCause.TheVariants.{OutOfMemory, ActionClash}
use Rattle.transition_lines.specs.declared.fault.TraFault.{TraFault}
use Rattle.game_outside.specs.Answers.{AnswersOrWants}
use Rattle.transition_lines.specs.Faults.{fault_at, fault_of_all, IsOutOfMemory}
use Rattle.transition_lines.specs.Lines.{Row, row_said, header_said, line_said, rows_said, clashes}
use Rattle.transition_lines.specs.Text.{lines_game, rows_game}

-- The answer is the header of the first line, or its fault.
abbrev pub at_first_line : Result Header TraCause → Result Header TraFault
at_first_line (Ok header) = Ok header
at_first_line (Err cause) = Err (fault_at 1 cause)

-- The line has this fault behind these rows.
pub record HasFault (header : Header) (line : List ℕ) (rows : List Row) (number : ℕ) (fault : TraFault) : Type 0 where
  pub cause : TraCause
  pub said : line_said header rows (fields_of line) ≡ Err cause
  pub is : fault ≡ fault_at number cause

-- The line says one more row, and `Holds` is true of these rows with it.
pub record SaysNext (header : Header) (line : List ℕ) (rows : List Row) (Holds : List Row → Type 0) : Type 0 where
  pub row : Row
  pub said : line_said header rows (fields_of line) ≡ Ok row
  pub holds : Holds (rows ++ row ∷ [])

-- The answer is the row that the line says by itself, or its fault, when `read` rows were read before.
abbrev pub RowAnswer : Header → ℕ → List ℕ → ℕ → Result (Transition × Bor (List ℕ)) TraFault → Type 0
RowAnswer header read line number (Ok (transition, action)) = (read < header.lines)
    × (row_said header (fields_of line) ≡ Ok (record { transition = transition; action = action.now }))
RowAnswer header read line number (Err fault) = (rows : List Row) → length rows ≡ read
    → HasFault header line rows number fault

-- The answer is the game or the fault that is said, or memory ran out, or its fault says nothing of the text.
abbrev pub IsAnswer : {Fault : Type 0} → (Fault → Option TraFault) → Result (List (List Distribution)) Fault
    → Result (List (List Distribution)) TraFault → Type 0
IsAnswer fault_of (Ok game) said = said ≡ Ok game
IsAnswer fault_of (Err fault) said = ForSome (fault_of fault)
    (λ told. AnswersOrWants {X = List (List Distribution)} IsOutOfMemory (λ g. g) (Err told) said)

module _ {Rows Fault : Type 0} (header_of : Rows → Header) (Holds : Rows → List Row → Type 0)
    (fault_of : Fault → Option TraFault) where
  -- The answer is right if these lines come next, the first of which has this number. Before the header nothing is
  -- held.
  abbrev pub IsRight : Option Rows → ℕ → List (List ℕ) → Result (List (List Distribution)) Fault → Type 0
  IsRight None number lines answer = number ≡ 1 → IsAnswer fault_of answer (lines_game lines)
  IsRight (Some held) number lines answer = (rows : List Row) → Holds held rows
      → IsAnswer fault_of answer (rows_game (header_of held) (rows_said (header_of held) number rows lines))

module _ {Rows : Type 0} (header_of : Rows → Header) (Holds : Rows → List Row → Type 0) where
  -- The first line has this header, behind which nothing is held, or this fault, or memory ran out.
  abbrev pub Begins : List ℕ → Result Rows TraFault → Type 0
  Begins line (Ok held) = (at_first_line (header_said (fields_of line)) ≡ Ok (header_of held)) × Holds held []
  Begins line (Err fault) = (fault ≡ fault_of_all OutOfMemory)
      ⊎ (at_first_line (header_said (fields_of line)) ≡ Err fault)

  -- The line says the next row, which is held from now on.
  abbrev pub TakesLine : Rows → Rows → List ℕ → Type 0
  TakesLine old new line = (header_of new ≡ header_of old)
      × ((rows : List Row) → Holds old rows → SaysNext (header_of old) line rows (Holds new))

  -- The row clashes with none that is held, and is held from now on.
  abbrev pub AddsRow : Rows → Rows → Row → Type 0
  AddsRow old new row = (header_of new ≡ header_of old)
      × ((rows : List Row) → Holds old rows → (clashes rows row ≡ false) × Holds new (rows ++ row ∷ []))

-- This is the fault of a row that clashes.
abbrev pub clash_of : ℕ → Row → TraFault
clash_of number row = fault_at number (ActionClash row.transition.source row.transition.choice)

module _ {Rows Fault : Type 0} (header_of : Rows → Header) (Holds : Rows → List Row → Type 0)
    (fault_of : Fault → Option TraFault) where
  -- If the fault is one of the text, the line has it, or memory ran out.
  abbrev pub RefusesLine : Rows → ℕ → List ℕ → Fault → Type 0
  RefusesLine old number line fault = (rows : List Row) → Holds old rows
      → ForSome (fault_of fault) (λ told. (told ≡ fault_of_all OutOfMemory)
      ⊎ HasFault (header_of old) line rows number told)

module _ {Rows Fault : Type 0} (Holds : Rows → List Row → Type 0) (fault_of : Fault → Option TraFault) where
  -- If the fault is one of the text, the row clashes, or memory ran out.
  abbrev pub RefusesRow : Rows → ℕ → Row → Fault → Type 0
  RefusesRow old number row fault = (rows : List Row) → Holds old rows
      → ForSome (fault_of fault) (λ told. (told ≡ fault_of_all OutOfMemory)
      ⊎ ((clashes rows row ≡ true) × (told ≡ clash_of number row)))

module _ {Rows : Type 0} (header_of : Rows → Header) (Holds : Rows → List Row → Type 0) where
  -- At the end of the text the rows make this result, or memory ran out.
  abbrev pub Finishes : Rows → Result (List (List Distribution)) TraFault → Type 0
  Finishes held result = (number : ℕ) (rows : List Row) → Holds held rows
      → AnswersOrWants IsOutOfMemory (λ g. g) result
      (rows_game (header_of held) (rows_said (header_of held) number rows []))
