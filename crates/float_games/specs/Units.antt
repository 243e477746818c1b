-- Values are in units, from 0 to probability 1.
use Rattle.std.specs.Prelude.{List, EachIndex, slice_index_or}
use Rattle.std.specs.Float.{Float, ◌≤ᶠ◌, float_zero}
use Rattle.float_games.specs.declared.TheConstants.{UNIT}

-- The number is from 0 to the unit.
abbrev pub IsInUnits : Float → Type 0
IsInUnits x = (float_zero ≤ᶠ x) × (x ≤ᶠ UNIT)

-- Each entry is from 0 to the unit.
abbrev pub AreInUnits : List Float → Type 0
AreInUnits xs = EachIndex xs (λ k. IsInUnits (slice_index_or xs k float_zero))
