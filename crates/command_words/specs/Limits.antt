-- The numbers of a command line have limits, and values if no word says them.
use Rattle.std.specs.Prelude.{ℕ}

-- A run has at most this many rounds.
abbrev pub most_rounds : ℕ
most_rounds = 1000000

-- A round has at most this many workers.
abbrev pub most_workers : ℕ
most_workers = 64

-- A run has at most this many rounds if no word says them.
abbrev pub default_rounds : ℕ
default_rounds = 10000

-- A round has this many workers if no word says them.
abbrev pub default_workers : ℕ
default_workers = 4

-- This is the greatest seed: draws are numbers modulo 2147483647, and none is 0.
abbrev pub most_seed : ℕ
most_seed = 2147483646

-- A drawn game has at least this many states: an initial state, a goal and a sink.
abbrev pub least_states : ℕ
least_states = 3

-- A drawn game has at most this many states.
abbrev pub most_states : ℕ
most_states = 1000000
