-- This module defines what contracts see of the lists that a game is made of.
use Rattle.std.specs.Prelude.{List, map}
use Rattle.std.specs.Global.{Vec}
use Rattle.game_model.specs.declared.game.Choice.{Choice}
use Rattle.game_model.specs.Game.{Distribution}

-- These are the choices of each state.
abbrev pub game_of : Vec (Vec Choice) → List (List Distribution)
game_of choices = map (λ c. c.items) choices.items
