-- This module defines rewards for the games that are counted by hand.
use Rattle.std.specs.Prelude.{ℕ, zero, suc, true, Bool, List, [], ◌∷◌, Option, Some, None, slice_index}
use Rattle.game_model.specs.declared.game.Side.TheVariants.{Min}
use Rattle.game_model.specs.Query.{Query}
use Rattle.strategies.specs.Strategies.{Strategy, Turn}
use Rattle.strategies.specs.worked_games.Games.{lingering}
use Rattle.expected_rewards.specs.Rewards.{Rewards}

-- In the game of lingering staying costs nothing, and trying costs 1.
abbrev pub trying_costs : Rewards
trying_costs s c = c

-- This strategy always tries.
abbrev pub trying : Strategy
trying past zero throw = 1
trying past (suc s) throw = 0

-- This is the game of lingering with the minimiser at its states.
abbrev pub waiting : Query
waiting = record lingering { sides = Min ∷ Min ∷ [] }

-- In the game of give and take a bold turn pays 3 and a careful one 1, and a mild reply pays 2 and a harsh one nothing.
-- The 5 is for turns at the goal and at the dead state, where nothing is paid.
abbrev pub wages : Rewards
wages zero zero = 3
wages zero (suc c) = 1
wages (suc zero) zero = 2
wages (suc zero) (suc c) = 0
wages (suc (suc s)) c = 5

-- This is a turn that is written by hand.
abbrev pub turn : ℕ → ℕ → Turn
turn s c = record { state = s; throw = 0; choice = c }

-- Both states are finite.
abbrev pub all_finite : List Bool
all_finite = true ∷ true ∷ []

-- This is the plan to try.
abbrev pub try_plan : List (Option ℕ)
try_plan = Some 1 ∷ None ∷ []

-- This is the plan to stay.
abbrev pub stay_plan : List (Option ℕ)
stay_plan = Some 0 ∷ None ∷ []

-- This table has 2 at the first state, and 0 at the other.
abbrev pub two : ℕ → ℕ
two s = slice_index (2 ∷ 0 ∷ []) s
