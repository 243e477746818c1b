-- This module defines what contracts see of a question: a reachability query on a turn-based stochastic game.
use Rattle.std.specs.Prelude.{◌≡◌, ℕ, Bool, true, false, List, length, slice_index_or}
use Rattle.game_model.specs.declared.game.Side.{Side}
use Rattle.game_model.specs.declared.game.Side.TheVariants.{Max}
use Rattle.game_model.specs.Game.{Distribution, IsGame}

-- A question gives to each state its choices, its side, and the marks goal and dead.
pub record Query : Type 0 where
  pub game : List (List Distribution)
  pub sides : List Side
  pub goals : List Bool
  pub deads : List Bool

-- A question has this many states.
abbrev pub states : Query → ℕ
states q = length q.game

-- This says whether a state is a goal.
abbrev pub is_goal : Query → ℕ → Bool
is_goal q s = slice_index_or q.goals s false

-- This says whether a state is dead.
abbrev pub is_dead : Query → ℕ → Bool
is_dead q s = slice_index_or q.deads s false

-- This side chooses at a state.
abbrev pub side_at : Query → ℕ → Side
side_at q s = slice_index_or q.sides s Max

-- These facts hold for every question.
pub record IsQuery (q : Query) : Type 0 where
  pub game : IsGame q.game
  pub sides : length q.sides ≡ length q.game
  pub goals : length q.goals ≡ length q.game
  pub deads : length q.deads ≡ length q.game
  pub apart : (s : ℕ) → is_goal q s ≡ true → is_dead q s ≡ false
