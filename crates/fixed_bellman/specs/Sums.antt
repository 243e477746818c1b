-- These are weighted sums over values that may rise while they are read.
use Rattle.std.specs.Prelude.{ℕ, ◌*◌, ◌≤◌, List, [], ◌∷◌, sum_by, slice_index}
use Rattle.game_model.specs.declared.game.Edge.{Edge}
use Rattle.game_model.specs.Limits.{unit}
use Rattle.game_model.specs.Values.{weighted_sum}
use Rattle.fixed_bellman.specs.declared.bounds.Bounds.{Bounds}
use Rattle.fixed_bellman.specs.Bounds.{lowers, uppers}

-- The edges have these successors and weights.
abbrev pub edges_of : List ℕ → List ℕ → List Edge
edges_of [] weights = []
edges_of (successor ∷ successors) [] = []
edges_of (successor ∷ successors) (weight ∷ weights) =
    record { to = successor; weight = weight } ∷ edges_of successors weights

-- This is the sum of the weights of these edges.
abbrev pub weight_of_all : List ℕ → List ℕ → ℕ
weight_of_all successors weights = sum_by (λ e. e.weight) (edges_of successors weights)

-- The weighted sum of units is between the sums over two tables.
pub record IsSumBetween (edges : List Edge) (old new : ℕ → ℕ) (sum : ℕ) : Type 0 where
  pub low : weighted_sum old edges ≤ sum
  pub high : sum ≤ weighted_sum new edges
  pub whole : sum ≤ sum_by (λ e. e.weight) edges * unit

-- These are the weighted sums over the lower and over the upper bounds.
pub record AreSums (edges : List Edge) (table : List Bounds) (low high : ℕ) : Type 0 where
  pub lower : IsSumBetween edges (slice_index (lowers table)) (slice_index (lowers table)) low
  pub upper : IsSumBetween edges (slice_index (uppers table)) (slice_index (uppers table)) high
