-- This module defines lists of rewards that are being made.
use Rattle.std.specs.Prelude.{◌≡◌, ℕ, ◌+◌, ◌<◌, List, length}
use Rattle.game_model.specs.Game.{Distribution, choices_of, choices_below}
use Rattle.expected_rewards.specs.Rewards.{Rewards}
use Rattle.reward_check.specs.Certificates.{flat_rewards}

-- The list has the rewards of the choices before choice c of state s.
pub record ArePaidBefore (game : List (List Distribution)) (rewards : Rewards) (s c : ℕ) (list : List ℕ) : Type 0 where
  pub many : length list ≡ choices_below game s + c
  pub before : (t d : ℕ) → t < s → d < length (choices_of game t) → flat_rewards game list t d ≡ rewards t d
  pub here : (d : ℕ) → d < c → flat_rewards game list s d ≡ rewards s d
