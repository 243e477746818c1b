-- These are the limits of a transition text.
use Rattle.std.specs.Prelude.{ℕ}

-- A header states at most this many choices, and each number of a choice is below it. The place of a choice fits 64
-- bits because of this limit.
abbrev pub most_stated_choices : ℕ
most_stated_choices = 4000000

-- A text has at most this many transition lines: what is kept of them fits the memory of a common machine.
abbrev pub most_lines : ℕ
most_lines = 8000000
