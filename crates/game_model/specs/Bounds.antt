-- This module defines sound bounds of the values, and when a value reaches or exceeds a number.
use Rattle.std.specs.Prelude.{ℕ, ◌+◌, ◌*◌, ◌^◌, ◌<◌, ◌≤◌, length}
use Rattle.game_model.specs.Query.{Query}
use Rattle.game_model.specs.Values.{denominator, numerator}
use Rattle.game_model.specs.Limits.{unit}

-- For some horizon the value of each state is at least its entry.
pub record IsLow (q : Query) (table : ℕ → ℕ) : Type 0 where
  pub horizon : ℕ
  pub below : (s : ℕ) → s < length q.game → table s * denominator q.game ^ horizon ≤ unit * numerator q horizon s

-- For each m there is a horizon k whose values are at most 1/m below the table, at all states.
abbrev pub IsNear : Query → (ℕ → ℕ) → Type 0
IsNear q table = (m : ℕ) → 1 ≤ m → (k : ℕ) × ((s : ℕ) → s < length q.game →
    m * table s * denominator q.game ^ k ≤ unit * (m * numerator q k s + denominator q.game ^ k))

-- Every k-step value is at most its entry.
abbrev pub IsHigh : Query → (ℕ → ℕ) → Type 0
IsHigh q table = (k s : ℕ) → s < length q.game → unit * numerator q k s ≤ table s * denominator q.game ^ k

-- For each m there is a k-step value that is at most 1/m below a/b.
abbrev pub Reaches : Query → ℕ → ℕ → ℕ → Type 0
Reaches q a b s = (m : ℕ) → 1 ≤ m → (k : ℕ) × (a * m * denominator q.game ^ k
    ≤ b * (m * numerator q k s + denominator q.game ^ k))

-- Some k-step value is above a/b.
abbrev pub Exceeds : Query → ℕ → ℕ → ℕ → Type 0
Exceeds q a b s = (k : ℕ) × (a * denominator q.game ^ k < b * numerator q k s)
