-- The weighted sum of edges over values that are read one after another.
use Rattle.std.proofs.Common.{◌≡◌, ℕ, ◌+◌, ◌*◌, ◌^◌, ◌<◌, ◌≤◌, List, length, take, get_or, sum_by, sym, ap, ◌∙◌, subst}
use Rattle.std.proofs.Common.{arith, inl, inr, le_refl}
use Rattle.std.specs.Prelude.{slice_index, All}
use Rattle.std.proofs.lemmas.List.{get_or_past, take_all}
use Rattle.std.proofs.lemmas.List.Sums.{sum_by_more, sum_by-take-le}
use Rattle.std.proofs.lemmas.Bool.{cases_lt}
use Rattle.std.proofs.Math.Nat.{mul-le-mul_left}
use Rattle.game_model.specs.declared.game.Edge.{Edge}
use Rattle.game_model.specs.Game.{no_edge}
use Rattle.game_model.specs.Values.{weighted_sum}
use Rattle.game_model.specs.Limits.{unit, total_bound}
use Rattle.fixed_bellman.specs.Sums.{edges_of, IsSumBetween}
use Rattle.game_model.proofs.Best.{weighted_sum-le, weighted_sum-most}
use Rattle.fixed_bellman.proofs.Edges.{length-edges_of, get_or-edges_of}

-- a table of units, past its end too
pub slice_index-units : (table : List ℕ) → All (λ v. v ≤ unit) table → (t : ℕ) → slice_index table t ≤ unit
slice_index-units table units t = elim (cases_lt t (length table)) [
  | inl inside ↦ units t 0 inside
  | inr past ↦ rw (get_or_past table t 0 past) (omega arith)
]

-- the whole sum is within the weights' worth
pub weighted_sum-whole : (edges : List Edge) (table : List ℕ) → All (λ v. v ≤ unit) table
    → weighted_sum (slice_index table) edges ≤ sum_by (λ e. e.weight) edges * unit
weighted_sum-whole edges table units = weighted_sum-most (slice_index table) unit edges
    (λ i d l. slice_index-units table units (get_or edges i d).to)

-- one more edge
module _ (edges : List Edge) (p sum value : ℕ) (edge : Edge) (there : p < length edges)
    (is : edge ≡ get_or edges p no_edge) where
  weights-more : sum_by (λ e. e.weight) (take (p + 1) edges) ≡ sum_by (λ e. e.weight) (take p edges) + edge.weight
  weights-more = sum_by_more (λ (e : Edge). e.weight) edges p no_edge there
      ∙ ap (λ (e : Edge). sum_by (λ d. d.weight) (take p edges) + e.weight) (sym is)

  sum-more : (v : ℕ → ℕ) → weighted_sum v (take (p + 1) edges) ≡ weighted_sum v (take p edges) + edge.weight * v edge.to
  sum-more v = sum_by_more (λ (e : Edge). e.weight * v e.to) edges p no_edge there
      ∙ ap (λ (e : Edge). weighted_sum v (take p edges) + e.weight * v e.to) (sym is)

  pub units-more : sum ≤ sum_by (λ e. e.weight) (take p edges) * unit → value ≤ unit
      → sum + edge.weight * value ≤ sum_by (λ e. e.weight) (take (p + 1) edges) * unit
  units-more so_far units = omega (arith, weights-more, mul-le-mul_left edge.weight units, so_far)

  pub sum-fits : sum ≤ sum_by (λ e. e.weight) (take p edges) * unit → value ≤ unit
      → sum_by (λ e. e.weight) edges < total_bound → sum + edge.weight * value < 2 ^ 128
  sum-fits so_far units small =
      omega (arith, units-more so_far units, sum_by-take-le (λ (e : Edge). e.weight) edges (p + 1), small)

  pub low-more : (v : ℕ → ℕ) → weighted_sum v (take p edges) ≤ sum → v edge.to ≤ value
      → weighted_sum v (take (p + 1) edges) ≤ sum + edge.weight * value
  low-more v so_far less = omega (arith, sum-more v, mul-le-mul_left edge.weight less, so_far)

  pub high-more : (v w : ℕ → ℕ) → sum ≤ weighted_sum v (take p edges) → ((t : ℕ) → v t ≤ w t) → value ≤ w edge.to
      → sum + edge.weight * value ≤ weighted_sum w (take (p + 1) edges)
  high-more v w so_far up less =
      let rise : 1 * weighted_sum v (take p edges) ≤ 1 * weighted_sum w (take p edges) =
      weighted_sum-le v w 1 1 (take p edges) (λ i d l. omega (arith, up (get_or (take p edges) i d).to)) in
      omega (arith, sum-more w, mul-le-mul_left edge.weight less, so_far, rise)

  -- the sum so far and one more product
  pub IsSumBetween-more : (old mid new : ℕ → ℕ) → IsSumBetween (take p edges) old mid sum
      → ((t : ℕ) → old t ≤ mid t) → mid edge.to ≤ value → ((t : ℕ) → mid t ≤ new t) → value ≤ new edge.to
      → value ≤ unit → IsSumBetween (take (p + 1) edges) old new (sum + edge.weight * value)
  IsSumBetween-more old mid new so_far earlier low later high units = record {
    low = low-more old so_far.low (omega (arith, earlier edge.to, low));
    high = high-more mid new so_far.high later high;
    whole = units-more so_far.whole units;
  }

  -- over values that stay
  pub IsSumBetween-still : (v : ℕ → ℕ) → IsSumBetween (take p edges) v v sum → value ≡ v edge.to → value ≤ unit
      → IsSumBetween (take (p + 1) edges) v v (sum + edge.weight * value)
  IsSumBetween-still v so_far same units = IsSumBetween-more v v v so_far (λ t. le_refl (v t)) (omega (arith, same))
      (λ t. le_refl (v t)) (omega (arith, same)) units

  pub narrow-fits : (old mid : ℕ → ℕ) → IsSumBetween (take p edges) old mid sum → value ≤ unit
      → sum_by (λ e. e.weight) edges * unit < 2 ^ 64 → sum + edge.weight * value < 2 ^ 64
  narrow-fits old mid so_far units narrow =
      omega (arith, units-more so_far.whole units, sum_by-take-le (λ (e : Edge). e.weight) edges (p + 1), narrow)

-- the sum over all edges
pub IsSumBetween-all : (edges : List Edge) (p sum : ℕ) (old new : ℕ → ℕ) → length edges ≤ p
    → IsSumBetween (take p edges) old new sum → IsSumBetween edges old new sum
IsSumBetween-all edges p sum old new past h = subst (λ es. IsSumBetween es old new sum) (take_all p edges past) h

-- Edges that lie as two lists, of successors and of weights: one more, and all.
module _ (successors weights : List ℕ) (many : length weights ≡ length successors) (p sum : ℕ) where
  pub listed-more : (value : ℕ) → p < length successors → (old mid new : ℕ → ℕ)
      → IsSumBetween (take p (edges_of successors weights)) old mid sum → ((t : ℕ) → old t ≤ mid t)
      → mid (get_or successors p 0) ≤ value → ((t : ℕ) → mid t ≤ new t) → value ≤ new (get_or successors p 0)
      → value ≤ unit
      → IsSumBetween (take (p + 1) (edges_of successors weights)) old new (sum + get_or weights p 0 * value)
  listed-more value inside = IsSumBetween-more (edges_of successors weights) p sum value
      (record { to = get_or successors p 0; weight = get_or weights p 0 })
      (omega (arith, length-edges_of successors weights many, inside))
      (get_or-edges_of successors weights p 0 0 many inside)

  pub listed-fits : (value : ℕ) → p < length successors → (old mid : ℕ → ℕ)
      → IsSumBetween (take p (edges_of successors weights)) old mid sum → value ≤ unit
      → sum_by (λ e. e.weight) (edges_of successors weights) * unit < 2 ^ 64 → sum + get_or weights p 0 * value < 2 ^ 64
  listed-fits value inside = narrow-fits (edges_of successors weights) p sum value
      (record { to = get_or successors p 0; weight = get_or weights p 0 })
      (omega (arith, length-edges_of successors weights many, inside))
      (get_or-edges_of successors weights p 0 0 many inside)

  pub listed-all : (old new : ℕ → ℕ) → length successors ≤ p
      → IsSumBetween (take p (edges_of successors weights)) old new sum
      → IsSumBetween (edges_of successors weights) old new sum
  listed-all old new past = IsSumBetween-all (edges_of successors weights) p sum old new
      (omega (arith, length-edges_of successors weights many, past))
