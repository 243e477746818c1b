-- These are the limits of a file of rewards.
use Rattle.std.specs.Prelude.{ℕ, ◌^◌}

-- A header states at most this many lines.
abbrev pub most_lines : ℕ
most_lines = 8000000

-- A reward is at most this number.
abbrev pub most_reward : ℕ
most_reward = 10 ^ 15
