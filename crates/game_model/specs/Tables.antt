-- A table of values is a list with one entry for each state, in units.
use Rattle.std.specs.Prelude.{◌≡◌, ℕ, ◌<◌, ◌≤◌, List, length, slice_index, All}
use Rattle.game_model.specs.Query.{Query, states}
use Rattle.game_model.specs.Limits.{unit}

-- The list has these entries, and each is at most the unit.
pub record IsTable (q : Query) (entries : ℕ → ℕ) (table : List ℕ) : Type 0 where
  pub many : length table ≡ states q
  pub each : (s : ℕ) → s < states q → slice_index table s ≡ entries s
  pub units : All (λ v. v ≤ unit) table

-- This is the first state whose entry is above the unit.
pub record IsFirstOver (table : List ℕ) (s : ℕ) : Type 0 where
  pub inside : s < length table
  pub over : unit < slice_index table s
  pub before : (t : ℕ) → t < s → slice_index table t ≤ unit
