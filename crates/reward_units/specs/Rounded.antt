-- This module defines the list of the rewards of a game in units.
use Rattle.std.specs.Prelude.{◌≡◌, ℕ, ◌+◌, ◌<◌, List, Option, Some, None, length}
use Rattle.fractions.specs.Fraction.{Fraction}
use Rattle.game_model.specs.Game.{Distribution, choices_of, choices_below}
use Rattle.expected_rewards.specs.Rewards.{Rewards}
use Rattle.rewards_reader.specs.Rewards.{reward_in}
use Rattle.reward_check.specs.Certificates.{flat_rewards}
use Rattle.reward_units.specs.declared.rounded.Rounding.{Rounding}
use Rattle.reward_units.specs.declared.rounded.Rounding.TheVariants.{Down, Up}
use Rattle.reward_units.specs.Exact.{ExactRewards}
use Rattle.reward_units.specs.Units.{units_below, units_above}

-- These are the exact rewards of a table.
abbrev pub exact_in : List (List Distribution) → List (Option Fraction) → ExactRewards
exact_in game table = record {
  of_state = λ s. reward_in game table s None;
  of_choice = λ s c. reward_in game table s (Some c);
}

-- This is the number of units of a reward, rounded one way.
abbrev pub units_one_way : Rounding → Fraction → ℕ → ℕ
units_one_way Down reward places = units_below reward places
units_one_way Up reward places = units_above reward places

-- A turn is paid the units of the state and those of the choice, each rounded this way.
abbrev pub paid_units : Rounding → ExactRewards → ℕ → Rewards
paid_units way exact places s c =
    units_one_way way (exact.of_state s) places + units_one_way way (exact.of_choice s c) places

-- The list has the reward of each choice, state by state.
pub record ArePaidUnits (game : List (List Distribution)) (rewards : Rewards) (list : List ℕ) : Type 0 where
  pub many : length list ≡ choices_below game (length game)
  pub each : (s c : ℕ) → s < length game → c < length (choices_of game s) → flat_rewards game list s c ≡ rewards s c
