-- These definitions say what the reader keeps of the lines so far, and which answers are right for the lines to come.
use Rattle.std.specs.Prelude.{◌≡◌, ℕ, List, [], ◌∷◌, ◌++◌, length, slice_index_or, Option, Some, None, Result, Ok, Err}
use Rattle.text_lines.specs.Text.{fields_of}
use Rattle.fractions.specs.Fraction.{Fraction}
use Rattle.game_model.specs.Game.{Distribution}
use Rattle.rewards_reader.specs.declared.fault.RewardsCause.{RewardsCause}
use Rattle.rewards_reader.specs.declared.fault.RewardsFault.{RewardsFault}
use Rattle.rewards_reader.specs.declared.fault.RewardsEnd.{RewardsEnd}
use Rattle.rewards_reader.specs.declared.fault.RewardsEnd.TheVariants.{OutOfMemory, Refused}
use Rattle.rewards_reader.specs.declared.line.RewardLine.{RewardLine}
use Rattle.rewards_reader.specs.declared.kept.KeptLines.{KeptLines}
use Rattle.rewards_reader.specs.Lines.{header_said, next_line, reward_at}
use Rattle.rewards_reader.specs.Rewards.{IsOfGame, place_of, IsAnswer}
use Rattle.rewards_reader.specs.Texts.{fault_at, lines_from, said_by_lines}

-- Each entry is the reward that the lines give to its state or choice, if a line is about it.
pub record AreEntries (game : List (List Distribution)) (lines : List RewardLine) (entries : List (Option Fraction))
    : Type 0 where
  pub each : (state : ℕ) (choice : Option ℕ) → IsOfGame game state choice
      → slice_index_or entries (place_of game state choice) None ≡ reward_at lines state choice

-- These lines have been read behind the header.
pub record IsKept (table : KeptLines) (lines : List RewardLine) : Type 0 where
  pub count : length lines ≡ table.count
  pub entries : AreEntries table.game.now lines table.entries.items

-- This is the fault of the line of this number.
abbrev pub IsFaultAt : {X : Type 0} → ℕ → Result X RewardsCause → RewardsFault → Type 0
IsFaultAt number (Ok x) fault = ⊥
IsFaultAt number (Err cause) fault = fault ≡ fault_at number cause

-- The end is the fault of the line of this number, or memory ran out.
abbrev pub IsEndAt : {X : Type 0} → ℕ → Result X RewardsCause → RewardsEnd → Type 0
IsEndAt number said OutOfMemory = Unit {0}
IsEndAt number said (Refused fault) = IsFaultAt number said fault

-- The line is the header, behind which nothing is kept yet.
pub record Begins (game : List (List Distribution)) (line : List ℕ) (table : KeptLines) : Type 0 where
  pub of_game : table.game.now ≡ game
  pub stated : header_said game (fields_of line) ≡ Ok table.stated
  pub kept : IsKept table []

-- The line says the next line behind these, and it is kept with them from now on.
pub record SaysNext (old new : KeptLines) (line : List ℕ) (before : List RewardLine) : Type 0 where
  pub next : RewardLine
  pub said : next_line old.game.now old.stated before (fields_of line) ≡ Ok next
  pub kept : IsKept new (before ++ next ∷ [])

-- The line says the next line behind those that are kept, and it is kept with them from now on.
pub record TakesLine (old new : KeptLines) (line : List ℕ) : Type 0 where
  pub game : new.game.now ≡ old.game.now
  pub stated : new.stated ≡ old.stated
  pub next : (before : List RewardLine) → IsKept old before → SaysNext old new line before

-- The end is the fault of the line of this number behind those that are kept, or memory ran out.
abbrev pub RefusesLine : KeptLines → ℕ → List (List ℕ) → RewardsEnd → Type 0
RefusesLine table number fields end = (before : List RewardLine) → IsKept table before
    → IsEndAt number (next_line table.game.now table.stated before fields) end

-- The answer is right if these lines come next, the first of which has this number, behind those that are kept.
abbrev pub IsRightBehind : KeptLines → ℕ → List (List ℕ) → Result (List (Option Fraction)) RewardsEnd → Type 0
IsRightBehind table number lines answer = (before : List RewardLine) → IsKept table before
    → IsAnswer table.game.now (lines_from table.game.now table.stated before number lines) answer

-- The answer is right if these lines come next, the first of which has this number. Before the header nothing is kept.
abbrev pub IsRight : List (List Distribution) → Option KeptLines → ℕ → List (List ℕ)
    → Result (List (Option Fraction)) RewardsEnd → Type 0
IsRight game None number lines answer = number ≡ 1 → IsAnswer game (said_by_lines game lines) answer
IsRight game (Some table) number lines answer = IsRightBehind table number lines answer
