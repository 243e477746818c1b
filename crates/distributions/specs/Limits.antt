-- This module defines the limits of choices.
use Rattle.std.specs.Prelude.{ℕ}

-- A choice has at most this many parts, the greatest number of lines of a transition text.
abbrev pub most_parts : ℕ
most_parts = 8000000

-- A sum of decimals, which may be rounded, misses 1 by at most one part in this many.
abbrev pub tolerance : ℕ
tolerance = 100000
