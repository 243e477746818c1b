-- Sums over edges.
use Rattle.std.proofs.Common.{◌≡◌, ℕ, zero, suc, ◌<◌, ◌+◌, ◌*◌, ◌≤◌, List, [], ◌∷◌, sum_by, arith}
use Rattle.std.specs.List.{All}
use Rattle.std.proofs.Math.Nat.{mul-le-mul_left, le_of_mul-le-mul_left}
use Rattle.std.proofs.lemmas.List.Elements.{All-nil, All-cons, All-head, All-tail}
use Rattle.std.proofs.lemmas.List.Sums.{sum_by-cons}
use Rattle.game_model.specs.declared.game.Edge.{Edge}
use Rattle.game_model.specs.Values.{weighted_sum}

-- the sum of the weights
abbrev pub weight : List Edge → ℕ
weight edges = sum_by (λ e. e.weight) edges

-- pointwise in order
pub sums-in_order : (a b : ℕ → ℕ) (edges : List Edge) → All (λ e. a e.to ≤ b e.to) edges
    → weighted_sum a edges ≤ weighted_sum b edges
sums-in_order a b [] h = omega arith
sums-in_order a b (e ∷ es) h =
    rw (sum_by-cons (λ (d : Edge). d.weight * a d.to) e es, sum_by-cons (λ (d : Edge). d.weight * b d.to) e es)
    (omega (
      arith,
      sums-in_order a b es (All-tail (λ (d : Edge). a d.to ≤ b d.to) e es h),
      mul-le-mul_left e.weight (All-head (λ (d : Edge). a d.to ≤ b d.to) e es h),
    ))

pub sums-same : (a b : ℕ → ℕ) (edges : List Edge) → All (λ e. a e.to ≡ b e.to) edges
    → weighted_sum a edges ≡ weighted_sum b edges
sums-same a b edges h = omega (
  arith,
  sums-in_order a b edges (λ i d l. omega (arith, h i d l)),
  sums-in_order b a edges (λ i d l. omega (arith, h i d l)),
)

-- terms in order whose sums are not are the same
cancel : (w a b : ℕ) → 1 ≤ w → a ≤ b → w * b ≤ w * a → a ≡ b
cancel w a b some h k = omega (arith, h, le_of_mul-le-mul_left k some)

pub tight : (a b : ℕ → ℕ) (edges : List Edge) → All (λ e. 1 ≤ e.weight) edges → All (λ e. a e.to ≤ b e.to) edges
    → weighted_sum b edges ≤ weighted_sum a edges → All (λ e. a e.to ≡ b e.to) edges
tight a b [] some h k = All-nil (λ (e : Edge). a e.to ≡ b e.to)
tight a b (e ∷ es) some h k =
    let first : weighted_sum a (e ∷ es) ≡ e.weight * a e.to + weighted_sum a es =
    sum_by-cons (λ (d : Edge). d.weight * a d.to) e es in
    let second : weighted_sum b (e ∷ es) ≡ e.weight * b e.to + weighted_sum b es =
    sum_by-cons (λ (d : Edge). d.weight * b d.to) e es in
    let most : All (λ (d : Edge). a d.to ≤ b d.to) es = All-tail (λ (d : Edge). a d.to ≤ b d.to) e es h in
    let least : a e.to ≤ b e.to = All-head (λ (d : Edge). a d.to ≤ b d.to) e es h in
    All-cons (λ (d : Edge). a d.to ≡ b d.to) e es
    (cancel e.weight (a e.to) (b e.to) (All-head (λ (d : Edge). 1 ≤ d.weight) e es some) least
    (omega (arith, k, first, second, sums-in_order a b es most)))
    (tight a b es (All-tail (λ (d : Edge). 1 ≤ d.weight) e es some) most
    (omega (arith, k, first, second, mul-le-mul_left e.weight least)))

-- a sum of multiples and a constant
pub sum-affine : (v : ℕ → ℕ) (t d : ℕ) (edges : List Edge)
    → weighted_sum (λ s. v s * t + d) edges ≡ weighted_sum v edges * t + weight edges * d
sum-affine v t d [] = omega arith
sum-affine v t d (e ∷ es) =
    rw (
      sum_by-cons (λ (f : Edge). f.weight * (v f.to * t + d)) e es,
      sum_by-cons (λ (f : Edge). f.weight * v f.to) e es,
      sum_by-cons (λ (f : Edge). f.weight) e es,
      sum-affine v t d es,
    )
    (omega arith)

pub sum-multiple : (v : ℕ → ℕ) (t : ℕ) (edges : List Edge)
    → weighted_sum (λ s. v s * t) edges ≡ weighted_sum v edges * t
sum-multiple v t edges = omega (
  arith,
  sums-same (λ s. v s * t) (λ s. v s * t + 0) edges (λ i e l. omega arith),
  sum-affine v t 0 edges,
)

-- a factor of what is greater than a number is positive
pub factor-pos : (x t n : ℕ) → n < x * t → 0 < x
factor-pos zero t n more = absurd (omega (arith, more))
factor-pos (suc x) t n more = omega arith
