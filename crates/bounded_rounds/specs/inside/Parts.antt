-- A step over a table of bounds fills a part of the next one.
use Rattle.std.specs.Prelude.{◌≡◌, ℕ, ◌+◌, ◌<◌, ◌≤◌, Bool, false, List, length, map, slice_index, All}
use Rattle.game_model.specs.Query.{Query, states}
use Rattle.game_model.specs.Limits.{unit}
use Rattle.game_model.specs.Rounded.{down_step, up_step}
use Rattle.fixed_bellman.specs.declared.bounds.Bounds.{Bounds}
use Rattle.fixed_bellman.specs.Bounds.{lowers, uppers, AreUnits}

-- The lower and the upper bounds are both these numbers.
abbrev pub opened : List ℕ → List Bounds
opened opening = map (λ v. record { lower = v; upper = v }) opening

-- The table has two numbers of units for each state.
pub record IsBoundsTable (q : Query) (table : List Bounds) : Type 0 where
  pub many : length table ≡ states q
  pub units : All AreUnits table

-- The first entries of a part are the steps of `count` states in a row from `first` on, in units. If nothing changed
-- they are also the entries of the table.
pub record IsStretch (step table : ℕ → ℕ) (first count : ℕ) (part : List ℕ) (changed : Bool) : Type 0 where
  pub values : (k : ℕ) → k < count → slice_index part k ≡ step (first + k)
  pub units : (k : ℕ) → k < count → slice_index part k ≤ unit
  pub same : changed ≡ false → (k : ℕ) → k < count → slice_index part k ≡ table (first + k)

-- The part has the steps of both bounds at `count` states in a row from `first` on.
pub record IsStepped (q : Query) (table : List Bounds) (first count : ℕ) (next : List Bounds)
    (changed : Bool) : Type 0 where
  pub down : IsStretch (down_step q (slice_index (lowers table))) (slice_index (lowers table)) first count
      (lowers next) changed
  pub up : IsStretch (up_step q (slice_index (uppers table))) (slice_index (uppers table)) first count
      (uppers next) changed
