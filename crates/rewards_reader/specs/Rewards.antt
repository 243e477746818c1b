-- These definitions say which rewards a text gives, and how a program keeps them.
use Rattle.std.specs.Prelude.{◌≡◌, ◌<◌, ℕ, ◌+◌, List, length, slice_index_or, Option, Some, None, unwrap_or}
use Rattle.std.specs.Prelude.{Result, Ok, Err}
use Rattle.fractions.specs.Fraction.{Fraction}
use Rattle.game_model.specs.Game.{Distribution, choices_of, choices_below}
use Rattle.rewards_reader.specs.declared.fault.RewardsFault.{RewardsFault}
use Rattle.rewards_reader.specs.declared.fault.RewardsEnd.{RewardsEnd}
use Rattle.rewards_reader.specs.declared.fault.RewardsEnd.TheVariants.{OutOfMemory, Refused}
use Rattle.rewards_reader.specs.declared.line.RewardLine.{RewardLine}
use Rattle.rewards_reader.specs.Amounts.{no_reward}
use Rattle.rewards_reader.specs.Lines.{reward_at}

-- The game has this state, or this choice of it.
abbrev pub IsOfGame : List (List Distribution) → ℕ → Option ℕ → Type 0
IsOfGame game state None = state < length game
IsOfGame game state (Some choice) = (state < length game) × (choice < length (choices_of game state))

-- This is the reward that lines give to a state, or to a choice of it. It is 0 if no line is about it.
abbrev pub reward_of : List RewardLine → ℕ → Option ℕ → Fraction
reward_of lines state choice = unwrap_or (reward_at lines state choice) no_reward

-- A table has entries in the order of the states: an entry for the state, and behind it one for each of its choices.
-- This is the place of a state, or of a choice of it.
abbrev pub place_of : List (List Distribution) → ℕ → Option ℕ → ℕ
place_of game state None = choices_below game state + state
place_of game state (Some choice) = choices_below game state + state + 1 + choice

-- This is the reward that a table has for a state, or for a choice of it. It is 0 if the entry has none.
abbrev pub reward_in : List (List Distribution) → List (Option Fraction) → ℕ → Option ℕ → Fraction
reward_in game table state choice = unwrap_or (slice_index_or table (place_of game state choice) None) no_reward

-- A table has for each state, and for each choice, the reward that the lines give, or 0 if no line is about it.
pub record HasRewards (game : List (List Distribution)) (lines : List RewardLine) (table : List (Option Fraction))
    : Type 0 where
  pub each : (state : ℕ) (choice : Option ℕ) → IsOfGame game state choice
      → reward_in game table state choice ≡ reward_of lines state choice

-- There are no faults, and a table has the rewards of the lines.
pub record GivesRewards (game : List (List Distribution)) (said : Result (List RewardLine) RewardsFault)
    (table : List (Option Fraction)) : Type 0 where
  pub lines : List RewardLine
  pub is_said : said ≡ Ok lines
  pub rewards : HasRewards game lines table

-- The answer is the rewards of the lines if there is no fault, and the first fault otherwise.
abbrev pub IsSaid : List (List Distribution) → Result (List RewardLine) RewardsFault
    → Result (List (Option Fraction)) RewardsFault → Type 0
IsSaid game said (Ok table) = GivesRewards game said table
IsSaid game said (Err fault) = said ≡ Err fault

-- The answer is the same, or memory ran out.
abbrev pub IsAnswer : List (List Distribution) → Result (List RewardLine) RewardsFault
    → Result (List (Option Fraction)) RewardsEnd → Type 0
IsAnswer game said (Ok table) = IsSaid game said (Ok table)
IsAnswer game said (Err (Refused fault)) = IsSaid game said (Err fault)
IsAnswer game said (Err OutOfMemory) = Unit {0}
