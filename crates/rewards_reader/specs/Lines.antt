-- These definitions give what the lines of a file of rewards say. The first line is the header `rewards STATES LINES`.
-- Each line behind it is `STATE REWARD` or `STATE CHOICE REWARD`.
use Rattle.std.specs.Prelude.{ℕ, ◌+◌, ◌==◌, ◌&&◌, nat_lt, Bool, true, false, List, [], ◌∷◌, length, codes, Option, Some}
use Rattle.std.specs.Prelude.{None, is_some, Result, Ok, Err, if◌then◌else◌, bytes_eq}
use Rattle.text_lines.specs.Text.{number_of}
use Rattle.fractions.specs.Fraction.{Fraction}
use Rattle.game_model.specs.Game.{Distribution, choices_of}
use Rattle.rewards_reader.specs.declared.fault.RewardsCause.{RewardsCause}
use Rattle.rewards_reader.specs.declared.fault.RewardsCause.TheVariants.{NoHeader, StateCount, OverLimit, LineCount}
use Rattle.rewards_reader.specs.declared.fault.RewardsCause.TheVariants.{FieldCount, BadField, StateOutOfRange}
use Rattle.rewards_reader.specs.declared.fault.RewardsCause.TheVariants.{ChoiceOutOfRange, DoubleLine}
use Rattle.rewards_reader.specs.declared.line.RewardLine.{RewardLine}
use Rattle.rewards_reader.specs.Limits.{most_lines}
use Rattle.rewards_reader.specs.Amounts.{amount_said}

-- 1. These definitions are about the header.

-- This is the number of lines that a header states for a game, or its first fault: it states no two whole numbers,
-- another number of states than the game has, or too many lines.
abbrev pub lines_stated : List (List Distribution) → Option ℕ → Option ℕ → Result ℕ RewardsCause
lines_stated game (Some states) (Some lines) = if states == length game then
    (if nat_lt most_lines lines then Err OverLimit else Ok lines) else Err StateCount
lines_stated game states lines = Err NoHeader

-- This is the number of lines that the fields of a header state for a game, or the first fault.
abbrev pub header_said : List (List Distribution) → List (List ℕ) → Result ℕ RewardsCause
header_said game (word ∷ states ∷ lines ∷ []) =
    if bytes_eq word (codes "rewards") then lines_stated game (number_of states) (number_of lines) else Err NoHeader
header_said game fields = Err NoHeader

-- 2. These definitions are about a line by itself.

-- This is the line that gives a state, or a choice of it, this reward, or the fault of the reward.
abbrev pub line_with : ℕ → Option ℕ → Result Fraction RewardsCause → Result RewardLine RewardsCause
line_with state choice (Ok reward) = Ok (record { state = state; choice = choice; reward = reward })
line_with state choice (Err cause) = Err cause

-- This is the line that gives a state of a game the reward that a field spells, or the first fault: the state is no
-- whole number or not below the number of states, or the reward is refused.
abbrev pub state_line : List (List Distribution) → Option ℕ → List ℕ → Result RewardLine RewardsCause
state_line game (Some state) reward =
    if nat_lt state (length game) then line_with state None (amount_said reward) else Err StateOutOfRange
state_line game None reward = Err BadField

-- This is the line that gives a choice of a state of a game the reward that a field spells, or the first fault: the
-- state or the choice is no whole number, or the game does not have it, or the reward is refused.
abbrev pub choice_line : List (List Distribution) → Option ℕ → Option ℕ → List ℕ → Result RewardLine RewardsCause
choice_line game (Some state) (Some choice) reward =
    if nat_lt state (length game) then
    (if nat_lt choice (length (choices_of game state)) then line_with state (Some choice) (amount_said reward)
    else Err ChoiceOutOfRange) else Err StateOutOfRange
choice_line game state choice reward = Err BadField

-- This is what the fields of a line say of a game by themselves, or the first fault. There are two or three.
abbrev pub line_said : List (List Distribution) → List (List ℕ) → Result RewardLine RewardsCause
line_said game (state ∷ reward ∷ []) = state_line game (number_of state) reward
line_said game (state ∷ choice ∷ reward ∷ []) = choice_line game (number_of state) (number_of choice) reward
line_said game fields = Err FieldCount

-- 3. These definitions are about a line behind others.

-- Both are the same choice, or no choice.
abbrev pub same_choice : Option ℕ → Option ℕ → Bool
same_choice None None = true
same_choice (Some choice) (Some other) = choice == other
same_choice choice other = false

-- The line gives a reward to this state, or to this choice of it.
abbrev pub is_about : ℕ → Option ℕ → RewardLine → Bool
is_about state choice line = line.state == state && same_choice line.choice choice

-- This is the reward that a line gives to this state, or to this choice of it, if there is such a line.
abbrev pub reward_at : List RewardLine → ℕ → Option ℕ → Option Fraction
reward_at [] state choice = None
reward_at (line ∷ lines) state choice =
    if is_about state choice line then Some line.reward else reward_at lines state choice

-- This is a line behind these, or its fault: one of these gives a reward to the same state, or to the same choice.
abbrev pub single_line : List RewardLine → Result RewardLine RewardsCause → Result RewardLine RewardsCause
single_line before (Ok line) =
    if is_some (reward_at before line.state line.choice) then Err DoubleLine else Ok line
single_line before (Err cause) = Err cause

-- This is what the fields of a line say behind these lines, or the first fault. If all lines are there that the header
-- states, the line is one too many, whatever it says.
abbrev pub next_line : List (List Distribution) → ℕ → List RewardLine → List (List ℕ) → Result RewardLine RewardsCause
next_line game stated before fields = if nat_lt (length before) stated then single_line before (line_said game fields)
    else Err (LineCount (stated + 1) stated)
