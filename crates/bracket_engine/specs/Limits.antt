-- This module defines the limit of a run as a number. The constant of the code is equal to it: `laws::limits`.
use Rattle.std.specs.Prelude.{ℕ}

-- At most this many rounds may be asked for.
abbrev pub most_rounds : ℕ
most_rounds = 1000000
