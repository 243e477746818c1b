-- The up step of a table can be filled in parts.
use Rattle.std.specs.Prelude.{◌≡◌, ℕ, ◌+◌, ◌<◌, ◌≤◌, List, slice_index}
use Rattle.game_model.specs.Query.{Query}
use Rattle.game_model.specs.Limits.{unit}
use Rattle.game_model.specs.Rounded.{up_step}

-- The first entries of a part are the up steps at `count` states in a row from `first` on, in units.
pub record IsFilled (q : Query) (table : List ℕ) (first count : ℕ) (part : List ℕ) : Type 0 where
  pub values : (k : ℕ) → k < count → slice_index part k ≡ up_step q (slice_index table) (first + k)
  pub units : (k : ℕ) → k < count → slice_index part k ≤ unit
