-- This module says what bounds of `G` say of a state, in the values of its dual. A value of `G` is 1 less the
-- probability of reaching a state where the right side fails.
use Rattle.std.specs.Prelude.{ℕ, ◌+◌, ◌*◌, ◌^◌, ◌≤◌}
use Rattle.game_model.specs.Limits.{unit}
use Rattle.game_model.specs.Query.{Query}
use Rattle.game_model.specs.Values.{denominator, numerator}

-- For every k, this many units are at most 1 less the k-step value.
abbrev pub IsBelowRest : Query → ℕ → ℕ → Type 0
IsBelowRest q s units = (k : ℕ) → units * denominator q.game ^ k + unit * numerator q k s
    ≤ unit * denominator q.game ^ k

-- For each m, this many units are at least 1 less some k-step value, less 1/m.
abbrev pub IsNearRest : Query → ℕ → ℕ → Type 0
IsNearRest q s units = (m : ℕ) → 1 ≤ m → (k : ℕ) × (unit * (m * denominator q.game ^ k)
    ≤ m * units * denominator q.game ^ k + unit * (m * numerator q k s + denominator q.game ^ k))
