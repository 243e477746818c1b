-- A transition text denotes a game. This is defined once as a relation, and once by cases with the first fault.
use Rattle.std.specs.Prelude.{◌≡◌, ◌<◌, ℕ, List, [], ◌∷◌, length, map, Result, Ok, Err}
use Rattle.std.specs.Option.{ForSome}
use Rattle.text_lines.specs.Text.{lines_of, fields_of, significant}
use Rattle.game_model.specs.Game.{Distribution, choices_of}
use Rattle.transition_lines.specs.declared.header.Header.{Header}
use Rattle.transition_lines.specs.declared.line.Transition.{Transition}
use Rattle.transition_lines.specs.declared.fault.TraCause.{TraCause}
use Rattle.transition_lines.specs.declared.fault.TraCause.TheVariants.{NoHeader}
use Rattle.transition_lines.specs.declared.fault.TraFault.{TraFault}
use Rattle.transition_lines.specs.Faults.{fault_at}
use Rattle.transition_lines.specs.Lines.{IsHeader, Row, AreRows, HaveActions, header_said, rows_said}
use Rattle.transition_lines.specs.Choices.{IsState, sum_of_first, transitions_game}

-- These are the transitions of the rows, in the order of the lines.
abbrev pub transitions : List Row → List Transition
transitions rows = map (λ row. row.transition) rows

-- 1. This definition is a relation.

-- A transition text denotes a game, given for each state as the list of its choices.
pub record DenotesGame (text : List ℕ) (game : List (List Distribution)) : Type 0 where
  pub first : List ℕ
  pub others : List (List ℕ)
  pub lines : significant (lines_of text) ≡ first ∷ others
  pub header : Header
  pub is_header : IsHeader first header
  pub states : length game ≡ header.states
  pub as_stated : length others ≡ header.lines
  pub rows : List Row
  pub are_rows : AreRows header others rows
  pub action_of : ℕ → ℕ → List ℕ
  -- All lines of a choice have one action.
  pub actions : HaveActions rows action_of
  pub choice_count : ℕ → ℕ
  pub made : (s : ℕ) → s < length game → IsState (transitions rows) s (choice_count s) (choices_of game s)
  -- In an MDP the choices that have a line are as many as the header states.
  pub all_choices : ForSome header.choices (λ stated. sum_of_first choice_count (length game) ≡ stated)

-- 2. These definitions go by cases, with the first fault.

-- This is the game of the rows behind a header, or the first fault: that of a line, or else of the whole.
abbrev pub rows_game : Header → Result (List Row) TraFault → Result (List (List Distribution)) TraFault
rows_game header (Ok rows) = transitions_game (transitions rows) header.states header.choices
rows_game header (Err fault) = Err fault

-- This is the game of a header and the lines behind it, or the first fault: that of the header, or else of the lines,
-- or else of the whole.
abbrev pub behind_header : Result Header TraCause → List (List ℕ) → Result (List (List Distribution)) TraFault
behind_header (Ok header) lines = rows_game header (rows_said header 2 [] lines)
behind_header (Err cause) lines = Err (fault_at 1 cause)

-- This is the game that lines denote if the first is the header, or the first fault.
abbrev pub lines_game : List (List ℕ) → Result (List (List Distribution)) TraFault
lines_game [] = Err (fault_at 1 NoHeader)
lines_game (line ∷ lines) = behind_header (header_said (fields_of line)) lines

-- This is the game of a transition text, or its first fault: the header's, then the lines' in their order, then the
-- whole text's.
unfoldable pub game_of : List ℕ → Result (List (List Distribution)) TraFault
game_of text = lines_game (significant (lines_of text))
