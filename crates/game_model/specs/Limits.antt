-- This module defines the unit and the limits as numbers. The constants of the code are equal to them: `laws::limits`.
use Rattle.std.specs.Prelude.{ℕ, ◌^◌}

-- Probability 1 is this many units, so that fifteen decimal places of a probability are a whole number of units.
abbrev pub unit : ℕ
unit = 1000000000000000

-- A game has at most this many states.
abbrev pub most_states : ℕ
most_states = 1000000

-- A state has at most this many choices: a choice takes 14 bits of a word, and a value takes the other 50.
abbrev pub most_choices : ℕ
most_choices = 2 ^ 14

-- Each total is below this number, so that a total times the unit takes at most 127 bits.
abbrev pub total_bound : ℕ
total_bound = 2 ^ 77
