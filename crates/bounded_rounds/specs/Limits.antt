-- These are the limits of a sweep. The constants of the code are equal to them: `laws::limits`.
use Rattle.std.specs.Prelude.{ℕ}

-- A sweep has at most this many steps.
abbrev pub most_steps : ℕ
most_steps = 1000000

-- A sweep has at most this many workers.
abbrev pub most_workers : ℕ
most_workers = 64
