-- This module defines the text of a value of rewards. A value is a count of units of so many places, or infinite.
use Rattle.std.specs.Prelude.{ℕ, zero, suc, ◌≤◌, ◌/◌, ◌%◌, ◌^◌, List, [], ◌∷◌, ◌++◌, Option, Some, None, codes, decimal}
use Rattle.game_model.specs.Limits.{unit}
use Rattle.plan_text.specs.Fixed.{last_digits}

-- A value that is a number has at most this many units.
abbrev pub IsValue : Option ℕ → Type 0
IsValue (Some units) = units ≤ unit
IsValue None = Unit {0}

-- The text is what stands behind a whole part: with places above 0 a point and as many digits as there are places.
abbrev pub part_text : ℕ → ℕ → List ℕ
part_text zero units = []
part_text (suc places) units = 46 ∷ last_digits (suc places) units

-- The text is a number of so many units: its whole part without leading zeros, and what stands behind it.
abbrev pub number_text : ℕ → ℕ → List ℕ
number_text places units = decimal (units / 10 ^ places) ++ part_text places (units % 10 ^ places)

-- The text is a value. An infinite one is a word.
abbrev pub value_text : ℕ → Option ℕ → List ℕ
value_text places (Some units) = number_text places units
value_text places None = codes "infinite"
