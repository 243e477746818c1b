-- The weighted sums of edges over the lower and over the upper bounds of a list.
use Rattle.std.proofs.Common.{◌≡◌, ℕ, ◌+◌, ◌*◌, ◌^◌, ◌<◌, ◌≤◌, List, length, take, get_or, sum_by, map, sym, ap, arith}
use Rattle.std.specs.Prelude.{slice_index, All}
use Rattle.std.proofs.Math.ListN.{get_or-map}
use Rattle.std.proofs.lemmas.List.Elements.{All-map}
use Rattle.game_model.specs.declared.game.Edge.{Edge}
use Rattle.game_model.specs.Game.{Distribution, IsDistribution, no_edge}
use Rattle.game_model.specs.Limits.{unit, total_bound}
use Rattle.fixed_bellman.specs.declared.bounds.Bounds.{Bounds}
use Rattle.fixed_bellman.specs.Bounds.{lowers, uppers, AreUnits}
use Rattle.fixed_bellman.specs.Sums.{edges_of, weight_of_all, AreSums}
use Rattle.fixed_bellman.proofs.Edges.{sum-of-edges, length-edges_of, get_or-edges_of}
use Rattle.fixed_bellman.proofs.Sums.{IsSumBetween-still, IsSumBetween-all, narrow-fits, sum-fits}

-- the bounds past the end of a list
abbrev pub no_bounds : Bounds
no_bounds = record { lower = 0; upper = 0 }

pub lowers-units : (table : List Bounds) → All AreUnits table → All (λ v. v ≤ unit) (lowers table)
lowers-units table units = All-map (λ v. v ≤ unit) (λ (b : Bounds). b.lower) table (λ i d l. (units i d l).0)

pub uppers-units : (table : List Bounds) → All AreUnits table → All (λ v. v ≤ unit) (uppers table)
uppers-units table units = All-map (λ v. v ≤ unit) (λ (b : Bounds). b.upper) table (λ i d l. (units i d l).1)

-- one more edge
module _ (edges : List Edge) (table : List Bounds) (p low high : ℕ) (edge : Edge) (there : p < length edges)
    (is : edge ≡ get_or edges p no_edge) (inside : edge.to < length table)
    (units : All AreUnits table) (so_far : AreSums (take p edges) table low high) where
  here : Bounds
  here = get_or table edge.to no_bounds

  within : AreUnits here
  unfolding here
  within = units edge.to no_bounds inside

  pub AreSums-more : AreSums (take (p + 1) edges) table (low + edge.weight * (get_or table edge.to no_bounds).lower)
      (high + edge.weight * (get_or table edge.to no_bounds).upper)
  unfolding here
  AreSums-more = record {
    lower = IsSumBetween-still edges p low here.lower edge there is (slice_index (lowers table)) so_far.lower
        (sym (get_or-map (λ (b : Bounds). b.lower) table edge.to no_bounds)) within.0;
    upper = IsSumBetween-still edges p high here.upper edge there is (slice_index (uppers table)) so_far.upper
        (sym (get_or-map (λ (b : Bounds). b.upper) table edge.to no_bounds)) within.1;
  }

  pub sums-narrow : sum_by (λ e. e.weight) edges * unit < 2 ^ 64
      → (low + edge.weight * (get_or table edge.to no_bounds).lower < 2 ^ 64)
      × (high + edge.weight * (get_or table edge.to no_bounds).upper < 2 ^ 64)
  unfolding here
  sums-narrow narrow = (
    narrow-fits edges p low here.lower edge there is _ _ so_far.lower within.0 narrow,
    narrow-fits edges p high here.upper edge there is _ _ so_far.upper within.1 narrow,
  )

  pub sums-fit : sum_by (λ e. e.weight) edges < total_bound
      → (low + edge.weight * (get_or table edge.to no_bounds).lower < 2 ^ 128)
      × (high + edge.weight * (get_or table edge.to no_bounds).upper < 2 ^ 128)
  unfolding here
  sums-fit small = (
    sum-fits edges p low here.lower edge there is so_far.lower.whole within.0 small,
    sum-fits edges p high here.upper edge there is so_far.upper.whole within.1 small,
  )

-- one more edge of a choice
module _ (m : Distribution) (table : List Bounds) (p count low high : ℕ) (edge : Edge)
    (is_count : count ≡ length m.edges) (before : p < count)
    (is : edge ≡ get_or m.edges p no_edge) (inside : All (λ e. e.to < length table) m.edges)
    (units : All AreUnits table) (so_far : AreSums (take p m.edges) table low high) where
  there : p < length m.edges
  there = omega arith

  to-inside : edge.to < length table
  to-inside = omega (arith, ap (λ (e : Edge). e.to) is, inside p no_edge there)

  pub choice-sums-more : AreSums (take (p + 1) m.edges) table
      (low + edge.weight * (get_or table edge.to no_bounds).lower)
      (high + edge.weight * (get_or table edge.to no_bounds).upper)
  choice-sums-more = AreSums-more m.edges table p low high edge there is to-inside units so_far

  pub choice-sums-fit : IsDistribution m
      → (low + edge.weight * (get_or table edge.to no_bounds).lower < 2 ^ 128)
      × (high + edge.weight * (get_or table edge.to no_bounds).upper < 2 ^ 128)
  choice-sums-fit fine = sums-fit m.edges table p low high edge there is to-inside units so_far
      (omega (arith, fine.sums, fine.small))

-- one more of the edges that lie as two lists, of successors and of weights
module _ (successors weights : List ℕ) (table : List Bounds) (p low high : ℕ)
    (many : length weights ≡ length successors) (inside : All (λ t. t < length table) successors)
    (units : All AreUnits table) (before : p < length successors)
    (so_far : AreSums (take p (edges_of successors weights)) table low high) where
  edge : Edge
  edge = record { to = get_or successors p 0; weight = get_or weights p 0 }

  listed : p < length (edges_of successors weights)
  listed = omega (arith, length-edges_of successors weights many)

  pub listed-sums-more : AreSums (take (p + 1) (edges_of successors weights)) table
      (low + get_or weights p 0 * (get_or table (get_or successors p 0) no_bounds).lower)
      (high + get_or weights p 0 * (get_or table (get_or successors p 0) no_bounds).upper)
  unfolding edge
  listed-sums-more = AreSums-more (edges_of successors weights) table p low high edge listed
      (get_or-edges_of successors weights p 0 0 many before) (inside p 0 before) units so_far

  pub listed-sums-narrow : weight_of_all successors weights * unit < 2 ^ 64
      → (low + get_or weights p 0 * (get_or table (get_or successors p 0) no_bounds).lower < 2 ^ 64)
      × (high + get_or weights p 0 * (get_or table (get_or successors p 0) no_bounds).upper < 2 ^ 64)
  unfolding edge
  listed-sums-narrow = sums-narrow (edges_of successors weights) table p low high edge listed
      (get_or-edges_of successors weights p 0 0 many before) (inside p 0 before) units so_far

-- the sums over all edges
pub AreSums-all : (successors weights : List ℕ) (table : List Bounds) (p low high : ℕ)
    → length weights ≡ length successors → length successors ≤ p
    → AreSums (take p (edges_of successors weights)) table low high
    → AreSums (edges_of successors weights) table low high
AreSums-all successors weights table p low high many past h =
    let all : length (edges_of successors weights) ≤ p = omega (arith, length-edges_of successors weights many) in
    record {
      lower = IsSumBetween-all (edges_of successors weights) p low _ _ all h.lower;
      upper = IsSumBetween-all (edges_of successors weights) p high _ _ all h.upper;
    }

-- the sums of a choice, from its successors and weights as they lie in the game
pub AreSums-of-edges : {m : Distribution} → IsDistribution m → {successors weights : List ℕ}
    → successors ≡ map (λ e. e.to) m.edges → weights ≡ map (λ e. e.weight) m.edges → {table : List Bounds}
    {low high : ℕ} → AreSums (edges_of successors weights) table low high → AreSums m.edges table low high
AreSums-of-edges fine are_to are_weights h = record {
  lower = sum-of-edges fine are_to are_weights h.lower;
  upper = sum-of-edges fine are_to are_weights h.upper;
}
