-- This module defines the limits of spellings.
use Rattle.std.specs.Prelude.{ℕ}

-- A decimal without its exponent, and each side of a fraction, has at most this many digits: such a number fits 128
-- bits.
abbrev pub most_digits : ℕ
most_digits = 30

-- An exponent has at most this many digits, leading zeros included.
abbrev pub most_exponent_digits : ℕ
most_exponent_digits = 3

-- An exponent is at most this far from 0, so that a number that is far out of range is refused before it is computed.
abbrev pub most_exponent : ℕ
most_exponent = 99
