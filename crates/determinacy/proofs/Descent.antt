-- Two tables are compared along the ranks of one.
use Rattle.std.proofs.Common.{◌≡◌, ℕ, zero, suc, ◌+◌, ◌-◌, ◌*◌, ◌<◌, ◌≤◌, length, get_or, arith, ap, inl, inr, ◌⊎◌}
use Rattle.std.specs.List.{All}
use Rattle.std.proofs.lemmas.Bool.{cases_lt}
use Rattle.std.proofs.Math.Nat.{mul-le-mul_right}
use Rattle.game_model.specs.Game.{Distribution, no_edge}
use Rattle.game_model.specs.Values.{weighted_sum}
use Rattle.determinacy.proofs.Sums.{weight, tight, sum-affine, sum-multiple}

-- what a choice keeps: weights that are at most the total together
pub record Fits (n : ℕ) (m : Distribution) : Type 0 where
  pub positive : 0 < m.total
  pub weights : All (λ e. 1 ≤ e.weight) m.edges
  pub few : weight m.edges ≤ m.total
  pub inside : All (λ e. e.to < n) m.edges

abbrev pub Held : (ℕ → ℕ) → ℕ → Distribution → Type 0
Held v s m = weighted_sum v m.edges ≤ v s * m.total

abbrev pub Enough : (ℕ → ℕ) → ℕ → Distribution → Type 0
Enough v s m = v s * m.total ≤ weighted_sum v m.edges

-- to a greater value, or to an equal one of smaller rank
abbrev pub Further : (ℕ → ℕ) → (ℕ → ℕ) → ℕ → ℕ → Type 0
Further v rank s t = (v s < v t) ⊎ ((v t ≡ v s) × (rank t < rank s))

pub record Onward (v rank : ℕ → ℕ) (s : ℕ) (m : Distribution) : Type 0 where
  pub place : ℕ
  pub within : place < length m.edges
  pub further : Further v rank s (get_or m.edges place no_edge).to

-- no set of states leads ever further in itself
module _ (v rank : ℕ → ℕ) (top : ℕ) (P : ℕ → Type 0) (most : (s : ℕ) → P s → v s ≤ top)
    (step : (s : ℕ) → P s → (t : ℕ) × (P t × Further v rank s t)) where
  level : (g : ℕ) → ((s : ℕ) → P s → top < v s + g → ⊥) → (r s : ℕ) → P s → top < v s + suc g → rank s < r → ⊥
  level g higher zero s h near few = absurd (omega (arith, few))
  level g higher (suc r) s h near few = let next = step s h in elim next.1.1 [
    | inl greater ↦ higher next.0 next.1.0 (omega (arith, greater, near))
    | inr equal ↦ level g higher r next.0 next.1.0 (omega (arith, equal.0, near)) (omega (arith, equal.1, few))
  ]

  within : (g s : ℕ) → P s → top < v s + g → ⊥
  within zero s h near = absurd (omega (arith, near, most s h))
  within (suc g) s h near = level g (λ t k close. within g t k close) (suc (rank s)) s h near (omega arith)

  pub nowhere : (s : ℕ) → P s → ⊥
  nowhere s h = within (suc top) s h (omega arith)

-- a state where a function is the greatest
pub greatest : (f : ℕ → ℕ) (n : ℕ) → 0 < n → (x : ℕ) × (x < n) × ((y : ℕ) → y < n → f y ≤ f x)
greatest f zero some = absurd (omega (arith, some))
greatest f (suc zero) some = (zero, omega arith, λ y l. let at : y ≡ 0 = omega (arith, l) in omega (arith, ap f at))
greatest f (suc (suc n)) some =
    let old : (x : ℕ) × (x < suc n) × ((y : ℕ) → y < suc n → f y ≤ f x) = greatest f (suc n) (omega arith) in
    elim (cases_lt (f old.0) (f (suc n))) [
      | inl new ↦ (
        suc n,
        omega arith,
        λ y l. elim (cases_lt y (suc n)) [
          | inl below ↦ omega (arith, old.2 y below, new)
          | inr last ↦ let at : y ≡ suc n = omega (arith, l, last) in omega (arith, ap f at)
        ],
      )
      | inr stays ↦ (
        old.0,
        omega (arith, old.1),
        λ y l. elim (cases_lt y (suc n)) [
          | inl below ↦ old.2 y below
          | inr last ↦ let at : y ≡ suc n = omega (arith, l, last) in omega (arith, ap f at, stays)
        ],
      )
    ]

shares : (v v' t t' x x' d w tot : ℕ) → v * t' ≡ v' * t + d → v * tot ≤ x → x' ≤ v' * tot → w ≤ tot
    → x' * t + w * d ≤ x * t'
shares v v' t t' x x' d w tot same enough held few =
    omega (arith, mul-le-mul_right t' enough, mul-le-mul_right t held, mul-le-mul_right d few, ap (λ z. z * tot) same)

-- where the difference is the greatest, it is so at each successor of a choice that is enough for one
-- table and held by the other
pub same-difference : (n : ℕ) (v v' : ℕ → ℕ) (t t' d : ℕ) → ((y : ℕ) → y < n → v y * t' ≤ v' y * t + d)
    → (s : ℕ) (m : Distribution) → Fits n m → v s * t' ≡ v' s * t + d → Enough v s m → Held v' s m
    → All (λ e. v e.to * t' ≡ v' e.to * t + d) m.edges
same-difference n v v' t t' d most s m fits same enough held =
    tight (λ y. v y * t') (λ y. v' y * t + d) m.edges fits.weights
    (λ i e l. most _ (fits.inside i e l))
    (rw (sum-affine v' t d m.edges, sum-multiple v t' m.edges)
    (shares (v s) (v' s) t t' (weighted_sum v m.edges) (weighted_sum v' m.edges) d
    (weight m.edges) m.total same enough held fits.few))

-- a choice by which one table goes onward and which the other holds
pub record Meets (n : ℕ) (v rank v' : ℕ → ℕ) (s : ℕ) : Type 0 where
  pub choice : Distribution
  pub fits : Fits n choice
  pub enough : Enough v s choice
  pub onward : Onward v rank s choice
  pub held : Held v' s choice

-- one table is above the other by at most d, if such a choice is at each state where it would be more
module _ (n : ℕ) (v rank v' : ℕ → ℕ) (t t' d : ℕ) (most : (y : ℕ) → y < n → v y ≤ t)
    (step : (y : ℕ) → y < n → v' y * t + d < v y * t' → Meets n v rank v' y) where
  no-more : (e : ℕ) → d < e → ((y : ℕ) → y < n → v y * t' ≤ v' y * t + e) → (x : ℕ) → x < n
      → v x * t' ≡ v' x * t + e → ⊥
  no-more e more all x inside same =
      nowhere v rank t (λ y. (y < n) × (v y * t' ≡ v' y * t + e)) (λ y h. most y h.0)
      (λ y h.
      let at : Meets n v rank v' y = step y h.0 (omega (arith, h.1, more)) in
      let equal = same-difference n v v' t t' e all y at.choice at.fits h.1 at.enough at.held in (
        (get_or at.choice.edges at.onward.place no_edge).to,
        (
          (
            at.fits.inside at.onward.place no_edge at.onward.within,
            equal at.onward.place no_edge at.onward.within,
          ),
          at.onward.further,
        ),
      ))
      x (inside, same)

  pub compared : (x : ℕ) → x < n → v x * t' ≤ v' x * t + d
  compared x inside =
      let top : (z : ℕ) × (z < n) × ((y : ℕ) → y < n → v y * t' - v' y * t ≤ v z * t' - v' z * t) =
      greatest (λ y. v y * t' - v' y * t) n (omega (arith, inside)) in
      elim (cases_lt d (v top.0 * t' - v' top.0 * t)) [
        | inl more ↦ absurd (no-more (v top.0 * t' - v' top.0 * t) more (λ y l. omega (arith, top.2 y l)) top.0 top.1
            (omega (arith, more)))
        | inr few ↦ omega (arith, top.2 x inside, few)
      ]
