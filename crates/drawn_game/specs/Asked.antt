-- This module defines the question about a drawn game.
use Rattle.std.specs.Prelude.{◌≡◌, ◌≤◌, ◌==◌, false, length, map, replicate}
use Rattle.std.specs.List.{range_with_len}
use Rattle.game_model.specs.Query.{Query}
use Rattle.drawn_game.specs.Rules.{SidedGame, goal_of}

-- The maximiser wants the goal, and no state is dead.
abbrev pub question_of : SidedGame → Query
question_of d = record {
  game = d.game;
  sides = d.sides;
  goals = map (λ s. s == goal_of (length d.game)) (range_with_len 0 (length d.game));
  deads = replicate (length d.game) false;
}

-- These facts hold for every drawn game: each state has a side, and there are at least two states, the goal and the
-- sink.
pub record IsSided (d : SidedGame) : Type 0 where
  pub many : length d.sides ≡ length d.game
  pub enough : 2 ≤ length d.game
