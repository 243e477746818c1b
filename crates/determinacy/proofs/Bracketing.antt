-- Sound bounds lie on either side of the values, so there is one value of each state.
use Rattle.std.proofs.Common.{◌≡◌, ℕ, ◌+◌, ◌*◌, ◌^◌, ◌<◌, ◌≤◌, arith, refl, inl, inr}
use Rattle.std.proofs.lemmas.Bool.{cases_lt}
use Rattle.std.proofs.Math.Nat.{mul-le-mul_left, mul-le-mul_right, le_of_mul-le-mul_left, one-le-pow}
use Rattle.game_model.specs.Limits.{unit}
use Rattle.game_model.specs.Query.{Query, IsQuery, states}
use Rattle.game_model.specs.Values.{denominator, numerator}
use Rattle.game_model.specs.Bounds.{IsNear, IsHigh, Reaches, Exceeds}
use Rattle.game_model.proofs.Choices.{denominator-pos}
use Rattle.game_laws.proofs.Truth.{near-reached, near-exceeded, not-exceeded, not-reached}
use Rattle.strategies.proofs.Plans.{over-near, over-high}
use Rattle.determinacy.specs.Exact.{HasValues}

crossed : (t u x y n d m : ℕ) → 0 < d → m ≡ t * u + 1 → m * x * d ≤ t * (m * n + d) → u * n ≤ y * d → x * u ≤ t * y
crossed t u x y n d m positive is near high = elim (cases_lt (t * y) (x * u)) [
  | inr few ↦ few
  | inl more ↦
      let whole : d * (m * x * u) ≤ d * (t * m * y + t * u) =
      omega (arith, mul-le-mul_right u near, mul-le-mul_left (t * m) high) in
      let cut : m * x * u ≤ t * m * y + t * u = le_of_mul-le-mul_left whole positive in
      let next : m * (t * y + 1) ≤ m * (x * u) =
      mul-le-mul_left m (let at : t * y + 1 ≤ x * u = omega (arith, more) in at) in
      absurd (omega (arith, cut, next, is))
]

module _ (q : Query) (posed : IsQuery q) where
  -- k-step values come near the values, and none is above
  values-near : (v : HasValues q) (m : ℕ) → 1 ≤ m → (k : ℕ) × ((s : ℕ) → s < states q
      → m * v.value s * denominator q.game ^ k ≤ v.top * (m * numerator q k s + denominator q.game ^ k))
  values-near v = over-near v.top q v.plan v.value posed v.reached

  pub values-high : (v : HasValues q) (k s : ℕ) → s < states q
      → v.top * numerator q k s ≤ v.value s * denominator q.game ^ k
  values-high v = over-high v.top q v.replies v.value posed v.held

  D-pos : (k : ℕ) → 0 < denominator q.game ^ k
  D-pos k = one-le-pow k (denominator q.game) (denominator-pos q.game posed.game)

  pub below : (table : ℕ → ℕ) (v : HasValues q) → IsNear q table → (s : ℕ) → s < states q
      → table s * v.top ≤ unit * v.value s
  below table v near s inside =
      let at = near (unit * v.top + 1) (omega arith) in
      crossed unit v.top (table s) (v.value s) (numerator q at.0 s) (denominator q.game ^ at.0) (unit * v.top + 1)
      (D-pos at.0) refl (at.1 s inside) (values-high v at.0 s inside)

  pub above : (table : ℕ → ℕ) (v : HasValues q) → IsHigh q table → (s : ℕ) → s < states q
      → unit * v.value s ≤ table s * v.top
  above table v high s inside =
      let at = values-near v (v.top * unit + 1) (omega arith) in
      let all : v.value s * unit ≤ v.top * table s = crossed v.top unit (v.value s) (table s) (numerator q at.0 s)
      (denominator q.game ^ at.0) (v.top * unit + 1) (D-pos at.0) refl (at.1 s inside) (high at.0 s inside) in
      omega (arith, all)

  crossing : (v w : HasValues q) (s : ℕ) → s < states q → v.value s * w.top ≤ v.top * w.value s
  crossing v w s inside =
      let at = values-near v (v.top * w.top + 1) (omega arith) in
      crossed v.top w.top (v.value s) (w.value s) (numerator q at.0 s) (denominator q.game ^ at.0) (v.top * w.top + 1)
      (D-pos at.0) refl (at.1 s inside) (values-high w at.0 s inside)

  pub one-value : (v w : HasValues q) (s : ℕ) → s < states q → v.value s * w.top ≡ w.value s * v.top
  one-value v w s inside = omega (arith, crossing v w s inside, crossing w v s inside)

  -- a threshold is reached exactly where the value is at least it
  pub reached-from : (v : HasValues q) (a b s : ℕ) → s < states q → a * v.top ≤ b * v.value s → Reaches q a b s
  reached-from v a b s inside most m some =
      let at = values-near v m some in (
        at.0,
        near-reached v.top a b (v.value s) (numerator q at.0 s) (denominator q.game ^ at.0) m v.positive
            (omega (arith, most)) (at.1 s inside),
      )

  pub reached-to : (v : HasValues q) (a b s : ℕ) → s < states q → Reaches q a b s → a * v.top ≤ b * v.value s
  reached-to v a b s inside reaches = elim (cases_lt (b * v.value s) (a * v.top)) [
    | inr most ↦ most
    | inl less ↦
        let at : (k : ℕ) × (a * (b * v.top + 1) * denominator q.game ^ k
        ≤ b * ((b * v.top + 1) * numerator q k s + denominator q.game ^ k)) = reaches (b * v.top + 1) (omega arith) in
        let most : b * v.top + 1 ≤ b * v.top =
        not-reached v.top a b (v.value s) (numerator q at.0 s) (denominator q.game ^ at.0) (b * v.top + 1) (D-pos at.0)
        (omega (arith, less)) (values-high v at.0 s inside) at.1 in
        absurd (omega (arith, most))
  ]

  -- and exceeded exactly where it is above it
  pub exceeded-from : (v : HasValues q) (a b s : ℕ) → s < states q → a * v.top < b * v.value s → Exceeds q a b s
  exceeded-from v a b s inside less =
      let at = values-near v (b * v.top + 1) (omega arith) in (
        at.0,
        near-exceeded v.top a b (v.value s) (numerator q at.0 s) (denominator q.game ^ at.0) (b * v.top + 1)
            (D-pos at.0) refl (omega (arith, less)) (at.1 s inside),
      )

  pub exceeded-to : (v : HasValues q) (a b s : ℕ) → s < states q → Exceeds q a b s → a * v.top < b * v.value s
  exceeded-to v a b s inside exceeds = elim (cases_lt (a * v.top) (b * v.value s)) [
    | inl less ↦ less
    | inr most ↦
        let few : b * numerator q exceeds.0 s ≤ a * denominator q.game ^ exceeds.0 =
        not-exceeded v.top a b (v.value s) (numerator q exceeds.0 s) (denominator q.game ^ exceeds.0) v.positive
        (omega (arith, most)) (values-high v exceeds.0 s inside) in
        absurd (omega (arith, exceeds.1, few))
  ]
