-- This module defines three games that are small enough to count their plays by hand.
use Rattle.std.specs.Prelude.{ℕ, true, false, [], ◌∷◌}
use Rattle.game_model.specs.declared.game.Edge.{Edge}
use Rattle.game_model.specs.declared.game.Side.TheVariants.{Max, Min}
use Rattle.game_model.specs.Draft.{distribution_of}
use Rattle.game_model.specs.Game.{Distribution}
use Rattle.game_model.specs.Query.{Query}

-- Of the parts of a choice, `weight` lead to this state.
abbrev pub parts_to : ℕ → ℕ → Edge
parts_to weight to = record { to = to; weight = weight }

-- This choice surely leads to this state.
abbrev pub surely : ℕ → Distribution
surely to = distribution_of (parts_to 1 to ∷ [])

-- This is the coin loop of examples/coin_loop.tra. From state 0 the play stays at state 0 half the time, a quarter of
-- the time it is won at state 1, and a quarter of the time it is lost at state 2. Nobody has a choice.
abbrev pub coin_loop : Query
coin_loop = record {
  game = (distribution_of (parts_to 2 0 ∷ parts_to 1 1 ∷ parts_to 1 2 ∷ []) ∷ []) ∷ (surely 1 ∷ []) ∷ (surely 2 ∷ [])
      ∷ [];
  sides = Max ∷ Max ∷ Max ∷ [];
  goals = false ∷ true ∷ false ∷ [];
  deads = false ∷ false ∷ false ∷ [];
}

-- Each player has a state. At state 0 the maximiser is bold (choice 0): half the time it wins at state 2, else the
-- minimiser moves at state 1. Or it is careful (choice 1): the minimiser moves. At state 1 the minimiser is mild
-- (choice 0): the maximiser moves. Or it is harsh (choice 1): half the time the maximiser moves, else the play is lost
-- at state 3, which is dead though it leads to state 2.
abbrev pub give_and_take : Query
give_and_take = record {
  game = (distribution_of (parts_to 1 1 ∷ parts_to 1 2 ∷ []) ∷ surely 1 ∷ [])
      ∷ (surely 0 ∷ distribution_of (parts_to 1 0 ∷ parts_to 1 3 ∷ []) ∷ [])
      ∷ (surely 2 ∷ []) ∷ (surely 2 ∷ []) ∷ [];
  sides = Max ∷ Min ∷ Max ∷ Max ∷ [];
  goals = false ∷ false ∷ true ∷ false ∷ [];
  deads = false ∷ false ∷ false ∷ true ∷ [];
}

-- At state 0 the maximiser may stay for ever (choice 0), or try (choice 1): half the time it wins at state 1, else it
-- is at state 0 again. So state 0 with its first choice is an end component.
abbrev pub lingering : Query
lingering = record {
  game = (surely 0 ∷ distribution_of (parts_to 1 0 ∷ parts_to 1 1 ∷ []) ∷ []) ∷ (surely 1 ∷ []) ∷ [];
  sides = Max ∷ Max ∷ [];
  goals = false ∷ true ∷ [];
  deads = false ∷ false ∷ [];
}
