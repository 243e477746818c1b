-- These definitions compare headers and lines that were read with what is said of them.
use Rattle.std.specs.Prelude.{◌≡◌, ◌≤◌, ◌<◌, ℕ, List, [], ◌∷◌, slice_get, Option, Some, None, Result, Ok, Err}
use Rattle.std.specs.Prelude.{option_map, not, Bool, false}
use Rattle.std.specs.Borrow.{Bor}
use Rattle.std.specs.List.{filter}
use Rattle.std.specs.Option.{option_map_or}
use Rattle.std.specs.Str.{bytes_eq}
use Rattle.game_model.specs.Limits.{most_states}
use Rattle.transition_lines.specs.declared.header.Header.{Header}
use Rattle.transition_lines.specs.declared.line.Transition.{Transition}
use Rattle.transition_lines.specs.declared.fault.TraCause.{TraCause}
use Rattle.transition_lines.specs.Limits.{most_lines}
use Rattle.transition_lines.specs.Lines.{Row}
use Rattle.transition_lines.specs.Order.{transition_place, has}

-- Every header that is read keeps this.
pub record IsAccepted (header : Header) : Type 0 where
  pub some : 0 < header.states
  pub few : header.states ≤ most_states
  pub short : header.lines ≤ most_lines

-- The answer is the row that is said, or its fault.
abbrev pub SaysRow : Result (Transition × Bor (List ℕ)) TraCause → Result Row TraCause → Type 0
SaysRow (Ok (transition, action)) said = said ≡ Ok (record { transition = transition; action = action.now })
SaysRow (Err cause) said = said ≡ Err cause

-- The answer is the last field, or no byte if there is no field. It is `None` if there are two fields or more.
abbrev pub IsLastField : Option (Bor (List ℕ)) → List (List ℕ) → Type 0
IsLastField (Some field) [] = field.now ≡ []
IsLastField (Some field) (a ∷ []) = a ≡ field.now
IsLastField (Some field) (a ∷ b ∷ fields) = ⊥
IsLastField None [] = ⊥
IsLastField None (a ∷ []) = ⊥
IsLastField None (a ∷ b ∷ fields) = Unit {0}

-- This is the place of the row's choice in the order of all choices.
abbrev pub row_place : Row → ℕ
row_place row = transition_place row.transition

-- This is the action of the first row at a place.
abbrev pub action_at : List Row → ℕ → Option (List ℕ)
action_at rows place = option_map (λ row. row.action) (slice_get (filter (has row_place place) rows) 0)

-- The action differs from that of the first row at its place.
abbrev pub clashes_at : List Row → Row → Bool
clashes_at before row = option_map_or (λ action. not (bytes_eq action row.action))
    (action_at before (row_place row)) false
