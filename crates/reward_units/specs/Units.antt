-- This module defines the number of units of an exact reward, rounded down and rounded up. A unit of so many places is
-- 10^-places of reward.
use Rattle.std.specs.Prelude.{ℕ, ◌+◌, ◌*◌, ◌/◌, ◌^◌, min}
use Rattle.std.specs.Int.{div_ceil}
use Rattle.game_model.specs.Limits.{unit}
use Rattle.fractions.specs.Fraction.{Fraction}

-- A unit has at most this many places.
abbrev pub most_places : ℕ
most_places = 15

-- A value has at most `unit` units. A reward has at most one unit more, which stands for every greater reward.
abbrev pub most_units : ℕ
most_units = unit + 1

-- This is a number of units, but at most that many.
abbrev pub capped : ℕ → ℕ
capped units = min units most_units

-- This is the number of units of an exact reward, rounded down, however many they are.
abbrev pub all_below : Fraction → ℕ → ℕ
all_below reward places = reward.num * 10 ^ places / reward.den

-- This is the number of units of an exact reward, rounded up, however many they are.
abbrev pub all_above : Fraction → ℕ → ℕ
all_above reward places = div_ceil (reward.num * 10 ^ places) reward.den

-- This is the number of units of an exact reward, rounded down, as a table has it.
abbrev pub units_below : Fraction → ℕ → ℕ
units_below reward places = capped (all_below reward places)

-- This is the number of units of an exact reward, rounded up, as a table has it.
abbrev pub units_above : Fraction → ℕ → ℕ
units_above reward places = capped (all_above reward places)
