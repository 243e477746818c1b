-- These definitions give what the lines of a whole text say, or its first fault.
use Rattle.std.specs.Prelude.{ℕ, ◌+◌, nat_lt, List, [], ◌∷◌, ◌++◌, length, Result, Ok, Err, if◌then◌else◌}
use Rattle.text_lines.specs.Text.{lines_of, fields_of, significant}
use Rattle.game_model.specs.Game.{Distribution}
use Rattle.rewards_reader.specs.declared.fault.RewardsCause.{RewardsCause}
use Rattle.rewards_reader.specs.declared.fault.RewardsCause.TheVariants.{NoHeader, LineCount}
use Rattle.rewards_reader.specs.declared.fault.RewardsFault.{RewardsFault}
use Rattle.rewards_reader.specs.declared.line.RewardLine.{RewardLine}
use Rattle.rewards_reader.specs.Lines.{header_said, next_line}

-- This is the fault of a line, by its number, which counts from 1. A fault of line 0 belongs to no single line.
abbrev pub fault_at : ℕ → RewardsCause → RewardsFault
fault_at line cause = record { line = line; cause = cause }

-- The next step goes on with what a line of this number says, unless the line has a fault.
abbrev pub then_at : {X Y : Type 0} → ℕ → Result X RewardsCause → (X → Result Y RewardsFault) → Result Y RewardsFault
then_at number (Ok x) next = next x
then_at number (Err cause) next = Err (fault_at number cause)

-- These are the lines before and those of this list, the first of which has this number, or the first fault. If no line
-- has one, the lines have to be as many as the header states.
abbrev pub lines_from : List (List Distribution) → ℕ → List RewardLine → ℕ → List (List ℕ)
    → Result (List RewardLine) RewardsFault
lines_from game stated before number [] =
    if nat_lt (length before) stated then Err (fault_at 0 (LineCount (length before) stated)) else Ok before
lines_from game stated before number (line ∷ lines) =
    then_at number (next_line game stated before (fields_of line))
    (λ next. lines_from game stated (before ++ next ∷ []) (number + 1) lines)

-- These are the lines behind the header, or the first fault.
abbrev pub said_by_lines : List (List Distribution) → List (List ℕ) → Result (List RewardLine) RewardsFault
said_by_lines game [] = Err (fault_at 1 NoHeader)
said_by_lines game (header ∷ lines) =
    then_at 1 (header_said game (fields_of header)) (λ stated. lines_from game stated [] 2 lines)

-- These are the lines behind the header of a text, or its first fault. Blank lines at the end say nothing.
abbrev pub lines_said : List (List Distribution) → List ℕ → Result (List RewardLine) RewardsFault
lines_said game text = said_by_lines game (significant (lines_of text))
