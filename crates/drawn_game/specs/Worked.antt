-- This module defines the worked row: the game of seed 1 with three states.
use Rattle.std.specs.Prelude.{[], ◌∷◌}
use Rattle.game_model.specs.declared.game.Side.TheVariants.{Max, Min}
use Rattle.drawn_game.specs.Rules.{SidedGame, stay}

-- State 0, which belongs to Min, has one choice, with weight 8 to the goal and 9 to the sink.
abbrev pub worked_row : SidedGame
worked_row = record {
  game = (record { total = 17; edges = record { to = 1; weight = 8 } ∷ record { to = 2; weight = 9 } ∷ [] } ∷ [])
      ∷ (stay 1 ∷ []) ∷ (stay 2 ∷ []) ∷ [];
  sides = Min ∷ Max ∷ Max ∷ [];
}
