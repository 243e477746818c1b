-- These definitions say what the reader of lines in any order holds.
use Rattle.std.specs.Prelude.{◌≡◌, ℕ, List, Option, Some, Result}
use Rattle.std.specs.List.{All}
use Rattle.game_model.specs.Game.{Distribution}
use Rattle.transition_lines.specs.declared.header.Header.{Header}
use Rattle.transition_lines.specs.declared.line.Transition.{Transition}
use Rattle.transition_lines.specs.declared.fault.TraFault.{TraFault}
use Rattle.tra_reader.specs.declared.line_actions.LineActions.{LineActions}
use Rattle.tra_reader.specs.declared.any_order.UnorderedRows.{UnorderedRows}
use Rattle.transition_lines.specs.Lines.{Row}
use Rattle.transition_lines.specs.Text.{transitions}
use Rattle.transition_lines.specs.Order.{IsWithin}
use Rattle.tra_reader.specs.inside.Noted.{NotesLines}
use Rattle.tra_reader.specs.inside.Reading.{IsRight, Begins, TakesLine, RefusesLine, AddsRow, RefusesRow, Finishes}

-- This is the header of the text to which these rows belong.
abbrev pub unordered_header : UnorderedRows → Header
unordered_header held = held.header

-- These rows of n states are held: their transitions, and the first action of each choice.
pub record AreWaiting (n : ℕ) (kept : List Transition) (actions : LineActions) (rows : List Row) : Type 0 where
  pub transitions : transitions rows ≡ kept
  pub within : All (λ row. IsWithin n row.transition) rows
  pub notes : NotesLines actions rows

-- These rows have been read behind the header, in whatever order their choices come.
abbrev pub HoldsUnordered : UnorderedRows → List Row → Type 0
HoldsUnordered held rows = AreWaiting held.header.states held.transitions.items held.actions rows

-- The answer is right if the text goes on with these lines, the first of which has this number. A fault is one of the
-- text, or memory ran out.
abbrev pub IsRightInAnyOrder : Option UnorderedRows → ℕ → List (List ℕ)
    → Result (List (List Distribution)) TraFault → Type 0
IsRightInAnyOrder = IsRight unordered_header HoldsUnordered (λ fault. Some fault)

-- The line is the header, behind which no row is held yet, or it has this fault, or memory ran out.
abbrev pub BeginsUnordered : List ℕ → Result UnorderedRows TraFault → Type 0
BeginsUnordered = Begins unordered_header HoldsUnordered

-- The line says the next row, which is held with the others from now on.
abbrev pub TakesUnordered : UnorderedRows → UnorderedRows → List ℕ → Type 0
TakesUnordered = TakesLine unordered_header HoldsUnordered

-- The line of this number has this fault behind the rows that are held, or memory ran out.
abbrev pub RefusesUnordered : UnorderedRows → ℕ → List ℕ → TraFault → Type 0
RefusesUnordered = RefusesLine unordered_header HoldsUnordered (λ fault. Some fault)

-- The row has the same action as the held rows of its choice, and is held with them from now on.
abbrev pub AddsUnordered : UnorderedRows → UnorderedRows → Row → Type 0
AddsUnordered = AddsRow unordered_header HoldsUnordered

-- The row of the line of this number has another action than the held rows give its choice, or memory ran out.
abbrev pub RefusesUnorderedRow : UnorderedRows → ℕ → Row → TraFault → Type 0
RefusesUnorderedRow = RefusesRow HoldsUnordered (λ fault. Some fault)

-- At the end of the text the held rows make this game, or have this first fault, or memory ran out.
abbrev pub FinishesUnordered : UnorderedRows → Result (List (List Distribution)) TraFault → Type 0
FinishesUnordered = Finishes unordered_header HoldsUnordered
