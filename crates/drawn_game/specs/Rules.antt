-- This module defines the game that a seed draws.
use Rattle.std.specs.Prelude.{ℕ, ◌+◌, ◌-◌, ◌%◌, ◌==◌, List, [], ◌∷◌, ◌++◌, map, if◌then◌else◌}
use Rattle.game_model.specs.declared.game.Edge.{Edge}
use Rattle.game_model.specs.declared.game.Side.{Side}
use Rattle.game_model.specs.declared.game.Side.TheVariants.{Max, Min}
use Rattle.game_model.specs.Game.{Distribution}
use Rattle.drawn_game.specs.Drawings.{Drawing, draw, done, ◌>>=◌, times}
use Rattle.drawn_game.specs.Parts.{choice_of_parts}

-- In a game of n states the state before the last is the goal.
abbrev pub goal_of : ℕ → ℕ
goal_of n = n - 2

-- In a game of n states the last is the sink, from which the goal is never reached.
abbrev pub sink_of : ℕ → ℕ
sink_of n = n - 1

-- The goal and the sink have this one choice, a move to itself.
abbrev pub stay : ℕ → Distribution
stay s = record { total = 1; edges = record { to = s; weight = 1 } ∷ [] }

-- The first part of a choice leads to the goal if its draw is odd, and else to the sink. A weight is 1 to 9.
abbrev pub first_part : ℕ → Drawing Edge
first_part n = do
  x ← draw
  w ← draw
  done (record { to = if x % 2 == 1 then goal_of n else sink_of n; weight = 1 + w % 9 })

-- Every other part leads to any state.
abbrev pub other_part : ℕ → Drawing Edge
other_part n = do
  x ← draw
  w ← draw
  done (record { to = x % n; weight = 1 + w % 9 })

-- A choice has 2 to 4 parts: the first, and 1 to 3 others.
abbrev pub drawn_choice : ℕ → Drawing Distribution
drawn_choice n = do
  x ← draw
  first ← first_part n
  others ← times (1 + x % 3) (other_part n)
  done (choice_of_parts n (first ∷ others))

-- A drawn state has the side that chooses there, and the choices.
pub record DrawnState : Type 0 where
  pub side : Side
  pub choices : List Distribution

-- The side is Max if its draw is even, and else Min.
abbrev pub side_of : ℕ → Side
side_of x = if x % 2 == 0 then Max else Min

-- A state has 1 to 3 choices.
abbrev pub drawn_state : ℕ → Drawing DrawnState
drawn_state n = do
  x ← draw
  y ← draw
  choices ← times (1 + y % 3) (drawn_choice n)
  done (record { side = side_of x; choices = choices })

-- A sided game has a game, and the side of each state.
pub record SidedGame : Type 0 where
  pub game : List (List Distribution)
  pub sides : List Side

-- The game has the states that were drawn, and then the goal and the sink, which belong to Max.
abbrev pub game_of_states : ℕ → List DrawnState → SidedGame
game_of_states n states = record {
  game = map (λ s. s.choices) states ++ (stay (goal_of n) ∷ []) ∷ (stay (sink_of n) ∷ []) ∷ [];
  sides = map (λ s. s.side) states ++ Max ∷ Max ∷ [];
}

-- This is the game of n states that a seed draws.
unfoldable pub drawn_game : ℕ → ℕ → SidedGame
drawn_game seed n = game_of_states n (times (n - 2) (drawn_state n) seed).value
