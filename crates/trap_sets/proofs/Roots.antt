-- How many roots there are.
use Rattle.std.proofs.Common.{◌≡◌, ◌≢◌, ℕ, zero, suc, ◌+◌, ◌<◌, ◌≤◌, Bool, List, true, false, length, arith, refl, ap}
use Rattle.std.proofs.Common.{sym, subst, ◌-◌, inl, inr}
use Rattle.std.specs.Prelude.{slice_index}
use Rattle.std.specs.Bool.{if◌then◌else◌}
use Rattle.std.proofs.lemmas.Bool.{cases_eq, cases_lt, eq-eqb, ne_eqb}
use Rattle.trap_sets.specs.inside.Roots.{roots, roots_below}

root-suc : (part : List ℕ) (n : ℕ) → slice_index part n ≡ n + 1 → roots_below part (suc n) ≡ roots_below part n + 1
unfolding roots_below
root-suc part n root =
    ap (λ (b : Bool). roots_below part n + (if b then 1 else 0)) (eq-eqb (slice_index part n) (n + 1) root)

other-suc : (part : List ℕ) (n : ℕ) → slice_index part n ≢ n + 1 → roots_below part (suc n) ≡ roots_below part n
unfolding roots_below
other-suc part n other =
    let at : roots_below part (suc n) ≡ roots_below part n + 0 =
    ap (λ (b : Bool). roots_below part n + (if b then 1 else 0)) (ne_eqb (slice_index part n) (n + 1) other) in
    omega (arith, at)

pub none-below : (part : List ℕ) → roots_below part 0 ≡ 0
unfolding roots_below
none-below part = refl

pub root-counts : (part : List ℕ) (n : ℕ) → slice_index part n ≡ n + 1
    → roots_below part (n + 1) ≡ roots_below part n + 1
root-counts part n root =
    let e : suc n ≡ n + 1 = omega arith in
    subst (λ m. roots_below part m ≡ roots_below part n + 1) e (root-suc part n root)

pub other-counts : (part : List ℕ) (n : ℕ) → slice_index part n ≢ n + 1
    → roots_below part (n + 1) ≡ roots_below part n
other-counts part n other =
    let e : suc n ≡ n + 1 = omega arith in
    subst (λ m. roots_below part m ≡ roots_below part n) e (other-suc part n other)

-- one state holds at most one root
one-more : (part : List ℕ) (n : ℕ) → (roots_below part n ≤ roots_below part (suc n))
    × (roots_below part (suc n) ≤ roots_below part n + 1)
one-more part n = elim (cases_eq (slice_index part n) (n + 1)) [
  | inl root ↦ (omega (arith, root-suc part n root), omega (arith, root-suc part n root))
  | inr other ↦ (omega (arith, other-suc part n other), omega (arith, other-suc part n other))
]

pub roots-most : (part : List ℕ) (n : ℕ) → roots_below part n ≤ n
unfolding roots_below
roots-most part zero = omega arith
roots-most part (suc n) = omega (arith, roots-most part n, (one-more part n).1)

pub roots-rise : (part : List ℕ) (n more : ℕ) → roots_below part n ≤ roots_below part (n + more)
roots-rise part n zero =
    let e : n + 0 ≡ n = omega arith in
    subst (λ m. roots_below part n ≤ roots_below part m) (sym e) (omega arith)
roots-rise part n (suc more) =
    let e : n + suc more ≡ suc (n + more) = omega arith in
    subst (λ m. roots_below part n ≤ roots_below part m) (sym e)
    (omega (arith, roots-rise part n more, (one-more part (n + more)).0))

-- each number is that of a root
pub root-of-number : (part : List ℕ) (n k : ℕ) → 1 ≤ k → k ≤ roots_below part n
    → (r : ℕ) × (r < n) × (slice_index part r ≡ r + 1) × (roots_below part (r + 1) ≡ k)
unfolding roots_below
root-of-number part zero k one most = absurd (omega (arith, one, most))
root-of-number part (suc n) k one most = elim (cases_lt k (roots_below part n + 1)) [
  | inl below ↦
      let found = root-of-number part n k one (omega (arith, below)) in
      (found.0, omega (arith, found.1), found.2, found.3)
  | inr above ↦ elim (cases_eq (slice_index part n) (n + 1)) [
    | inl root ↦
        let e : suc n ≡ n + 1 = omega arith in
        let at : roots_below part (n + 1) ≡ k =
        subst (λ m. roots_below part m ≡ k) e (omega (arith, most, above, root-suc part n root)) in
        (n, omega arith, root, at)
    | inr other ↦ absurd (omega (arith, most, above, other-suc part n other))
  ]
]

-- where the roots stay and a state becomes one, there are more
module _ (old new : List ℕ) (kept : (s : ℕ) → slice_index old s ≡ s + 1 → slice_index new s ≡ s + 1) where
  roots-kept : (n : ℕ) → roots_below old n ≤ roots_below new n
  unfolding roots_below
  roots-kept zero = omega arith
  roots-kept (suc n) = elim (cases_eq (slice_index old n) (n + 1)) [
    | inl root ↦ omega (arith, roots-kept n, root-suc old n root, root-suc new n (kept n root))
    | inr other ↦ omega (arith, roots-kept n, other-suc old n other, (one-more new n).0)
  ]

  pub roots-more : (n s : ℕ) → s < n → slice_index new s ≡ s + 1 → slice_index old s ≢ s + 1
      → roots_below old n < roots_below new n
  roots-more zero s l root other = absurd (omega (arith, l))
  roots-more (suc n) s l root other = elim (cases_eq s n) [
    | inl same ↦
        let root' : slice_index new n ≡ n + 1 = subst (λ k. slice_index new k ≡ k + 1) same root in
        let other' : slice_index old n ≢ n + 1 = subst (λ k. slice_index old k ≢ k + 1) same other in
        omega (arith, roots-kept n, root-suc new n root', other-suc old n other')
    | inr apart ↦ elim (cases_eq (slice_index old n) (n + 1)) [
      | inl is ↦ omega (
        arith,
        roots-more n s (omega (arith, l, apart)) root other,
        root-suc old n is,
        root-suc new n (kept n is),
      )
      | inr not ↦ omega (
        arith,
        roots-more n s (omega (arith, l, apart)) root other,
        other-suc old n not,
        (one-more new n).0,
      )
    ]
  ]

-- what the loop that breaks up parts counts down
pub others-fall : (old new : List ℕ) (was breaks : Bool) → was ≡ true → length new ≡ length old
    → (breaks ≡ true → roots old < roots new)
    → (if breaks then length new - roots new + 1 else 0) < (if was then length old - roots old + 1 else 0)
others-fall old new true true is same more = omega (arith, same, more refl, roots-most new (length new))
others-fall old new true false is same more = omega arith
others-fall old new false breaks is same more = absurd (cc)
