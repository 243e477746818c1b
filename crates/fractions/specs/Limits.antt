-- This module defines the limits of numbers.
use Rattle.std.specs.Prelude.{ℕ, ◌^◌}

-- This is the greatest denominator of a fraction and of a choice: a sum of weights over it fits 128 bits, and a sum
-- near it is below `total_bound`.
abbrev pub finest : ℕ
finest = 10 ^ 23

-- A fraction is at most this number. A fraction above 1 may be rounded, so the sum of its choice decides.
abbrev pub most_value : ℕ
most_value = 2
