-- This module defines what contracts see of a game in flat lists.
use Rattle.std.specs.Prelude.{List}
use Rattle.game_model.specs.Game.{Distribution, IsGame}
use Rattle.game_model.specs.declared.game.Game.TheInside.{Inside}
use Rattle.game_model.specs.Flat.{game_at, IsLaidOut}

-- The lists of a game hold these choices of each state.
abbrev pub game_of_flat : Inside → List (List Distribution)
game_of_flat g = game_at g.first_choice.items g.first_edge.items g.totals.items g.to.items g.low.items g.high.items

-- The lists of a game hold a game.
pub record IsFlatGame (g : Inside) : Type 0 where
  pub game : IsGame (game_of_flat g)
  pub laid_out : IsLaidOut g.first_choice.items g.first_edge.items g.totals.items g.to.items g.low.items
