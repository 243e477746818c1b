-- This module defines what contracts see of a row.
use Rattle.std.specs.Prelude.{List}
use Rattle.game_model.specs.Game.{Distribution}
use Rattle.game_model.specs.declared.row.Row.TheInside.{Inside}
use Rattle.game_model.specs.Row.{row_at, IsRow}

-- The lists of a row hold these choices.
abbrev pub row_of : Inside → List Distribution
row_of r = row_at r.bounds.now r.totals.now r.to.now r.low.now r.high.now

-- The lists of a row hold the choices of a state.
abbrev pub IsRowOf : Inside → Type 0
IsRowOf r = IsRow r.bounds.now r.totals.now r.to.now r.low.now r.high.now
