-- These definitions say what the reader of lines in order holds.
use Rattle.std.specs.Prelude.{◌≡◌, ℕ, List, length, Option, Some, None, Result}
use Rattle.std.specs.List.{All}
use Rattle.game_model.specs.Game.{Distribution}
use Rattle.transition_lines.specs.declared.header.Header.{Header}
use Rattle.transition_lines.specs.declared.fault.TraFault.{TraFault}
use Rattle.tra_reader.specs.declared.stop.Stop.{Stop}
use Rattle.tra_reader.specs.declared.stop.Stop.TheVariants.{OutOfOrder, Refused}
use Rattle.tra_reader.specs.declared.ordered.OrderedRows.{OrderedRows}
use Rattle.transition_lines.specs.Lines.{Row}
use Rattle.transition_lines.specs.Text.{transitions}
use Rattle.transition_lines.specs.Order.{IsWithin}
use Rattle.tra_reader.specs.inside.ActionUnderWay.{IsActionUnderWay}
use Rattle.tra_reader.specs.inside.GrowingGames.{Growing, HoldsInOrder}
use Rattle.tra_reader.specs.inside.Reading.{IsRight, Begins, TakesLine, RefusesLine, AddsRow, RefusesRow, Finishes}

-- This is the fault of the text, if the reader tells one.
abbrev pub text_fault : Stop → Option TraFault
text_fault OutOfOrder = None
text_fault (Refused fault) = Some fault

-- This is the header of the text to which these rows belong.
abbrev pub ordered_header : OrderedRows → Header
ordered_header held = held.header

-- These rows of n states, which come in the order of their choices, are held. Of their actions, the first of the choice
-- under way is kept.
pub record AreInOrder (n read : ℕ) (game : Growing) (action : List ℕ) (rows : List Row) : Type 0 where
  pub holds : HoldsInOrder game n (transitions rows)
  pub within : All (λ row. IsWithin n row.transition) rows
  pub count : length rows ≡ read
  pub first : IsActionUnderWay game action rows

-- These rows have been read behind the header, in the order of their choices.
abbrev pub HoldsOrdered : OrderedRows → List Row → Type 0
HoldsOrdered held rows = AreInOrder held.header.states held.read held.game held.action.items rows

-- The answer is right if the text goes on with these lines, the first of which has this number. That a line is out of
-- order says nothing of the text.
abbrev pub IsRightInOrder : Option OrderedRows → ℕ → List (List ℕ) → Result (List (List Distribution)) Stop → Type 0
IsRightInOrder = IsRight ordered_header HoldsOrdered text_fault

-- The line is the header, behind which no row is held yet, or it has this fault, or memory ran out.
abbrev pub BeginsOrdered : List ℕ → Result OrderedRows TraFault → Type 0
BeginsOrdered = Begins ordered_header HoldsOrdered

-- The line says the next row, which is held with the others from now on.
abbrev pub TakesOrdered : OrderedRows → OrderedRows → List ℕ → Type 0
TakesOrdered = TakesLine ordered_header HoldsOrdered

-- Unless it is out of order, the line of this number has this fault behind the rows that are held, or memory ran out.
abbrev pub RefusesOrdered : OrderedRows → ℕ → List ℕ → Stop → Type 0
RefusesOrdered = RefusesLine ordered_header HoldsOrdered text_fault

-- The row has the same action as the held rows of its choice, and is held with them from now on.
abbrev pub AddsOrdered : OrderedRows → OrderedRows → Row → Type 0
AddsOrdered = AddsRow ordered_header HoldsOrdered

-- Unless it is out of order, the row has another action than the held rows give its choice, or memory ran out.
abbrev pub RefusesOrderedRow : OrderedRows → ℕ → Row → Stop → Type 0
RefusesOrderedRow = RefusesRow HoldsOrdered text_fault

-- At the end of the text the held rows make this game, or have this first fault, or memory ran out.
abbrev pub FinishesOrdered : OrderedRows → Result (List (List Distribution)) TraFault → Type 0
FinishesOrdered = Finishes ordered_header HoldsOrdered
