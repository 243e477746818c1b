-- These definitions say how the first actions of choices are noted.
use Rattle.std.specs.Prelude.{◌≡◌, ℕ, Bool, true, false, List, [], map, Option, option_map, nat_eq}
use Rattle.std.specs.List.{slice_range, All}
use Rattle.std.specs.HashMap.{get}
use Rattle.transition_lines.specs.declared.line.Transition.{Transition}
use Rattle.tra_reader.specs.declared.actions.FirstActions.{FirstActions}
use Rattle.tra_reader.specs.declared.line_actions.LineActions.{LineActions}
use Rattle.transition_lines.specs.Lines.{Row}
use Rattle.transition_lines.specs.Answers.{action_at}

-- This is the action that is noted for the choice at this place.
abbrev pub noted : FirstActions → ℕ → Option (List ℕ)
noted actions place = option_map (λ span. slice_range actions.bytes.items span.start span.end)
    (get nat_eq actions.spans place)

-- The first action of the rows at each place is noted.
abbrev pub Notes : FirstActions → List Row → Type 0
Notes actions rows = (place : ℕ) → noted actions place ≡ action_at rows place

-- The row has no action.
abbrev pub IsSilent : Row → Type 0
IsSilent row = row.action ≡ []

-- No row has an action.
abbrev pub AreSilent : List Row → Type 0
AreSilent rows = All IsSilent rows

-- These are the rows of the transitions, each without an action.
abbrev pub silent_rows : List Transition → List Row
silent_rows kept = map (λ transition. record { transition = transition; action = [] }) kept

-- Either nothing is noted and no row has an action, or the first actions of the rows are noted.
abbrev pub NotesIf : Bool → FirstActions → List Row → Type 0
NotesIf true actions rows = Notes actions [] × AreSilent rows
NotesIf false actions rows = Notes actions rows

-- The first action of each choice in these rows is known: it is noted, or no row has an action and none is noted.
abbrev pub NotesLines : LineActions → List Row → Type 0
NotesLines actions rows = NotesIf actions.silent actions.first rows
