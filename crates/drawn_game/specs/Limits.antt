-- This module defines the numbers of the generator and the limits. The constants of the code are equal to them:
-- `laws::limits`.
use Rattle.std.specs.Prelude.{ℕ}

-- A draw is multiplied by this number.
abbrev pub multiplier : ℕ
multiplier = 48271

-- The product is divided by this prime, and the remainder is the next draw.
abbrev pub modulus : ℕ
modulus = 2147483647

-- This is the greatest seed.
abbrev pub most_seed : ℕ
most_seed = 2147483646

-- A drawn game has at least this many states: one that is drawn, the goal and the sink.
abbrev pub least_states : ℕ
least_states = 3
