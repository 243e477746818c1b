-- This module defines the values of rewards that fields spell.
use Rattle.std.specs.Prelude.{ℕ, suc, zero, ◌+◌, ◌-◌, ◌*◌, ◌^◌, ◌==◌, nat_le, bytes_eq, Bool, true, List, [], ◌∷◌, take}
use Rattle.std.specs.Prelude.{drop, length, Option, Some, None, option_map, codes, if◌then◌else◌}
use Rattle.game_model.specs.Limits.{unit}
use Rattle.text_lines.specs.Text.{number_of}

-- The bytes spell a whole number with no zero in front of another digit.
abbrev pub plain_number : List ℕ → Option ℕ
plain_number [] = None
plain_number (b ∷ []) = number_of (b ∷ [])
plain_number (b ∷ bytes) = if b == 48 then None else number_of (b ∷ bytes)

-- The bytes are a point and digits, which spell a number.
abbrev pub part_in : List ℕ → Option ℕ
part_in [] = None
part_in (point ∷ digits) = if point == 46 then number_of digits else None

-- A whole part of so many rewards and a part of so many units are a count of units.
abbrev pub units_from : ℕ → Option ℕ → Option ℕ → Option ℕ
units_from one (Some whole) (Some part) = Some (whole * one + part)
units_from one whole part = None

-- A field is a number of so many units. With places above 0 its last bytes are a point and as many digits as there are
-- places, and the bytes before them are its whole part.
abbrev pub units_in : ℕ → List ℕ → Option ℕ
units_in zero field = plain_number field
units_in (suc k) field = units_from (10 ^ suc k) (plain_number (take (length field - (k + 2)) field))
    (part_in (drop (length field - (k + 2)) field))

-- A field is a value: a number, or the word for an infinite one.
abbrev pub value_in : ℕ → List ℕ → Option (Option ℕ)
value_in places field = if bytes_eq field (codes "infinite") then Some None else option_map Some (units_in places field)

-- A value that is a number has at most this many units.
abbrev pub is_value : Option ℕ → Bool
is_value None = true
is_value (Some units) = nat_le units unit
