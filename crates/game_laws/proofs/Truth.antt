-- What low, near and high tables say of a bound a/b.
use Rattle.std.proofs.Common.{◌≡◌, ℕ, ◌+◌, ◌*◌, ◌^◌, ◌<◌, ◌≤◌, length, arith, ap, refl, inl, inr, lit<}
use Rattle.std.proofs.lemmas.Bool.{cases_lt}
use Rattle.std.proofs.Math.Nat.{mul-le-mul_left, mul-le-mul_right, le_of_mul-le-mul_left, one-le-pow}
use Rattle.game_model.specs.Query.{Query, IsQuery}
use Rattle.game_model.specs.Values.{denominator, numerator}
use Rattle.game_model.specs.Limits.{unit}
use Rattle.game_model.specs.Bounds.{IsLow, IsNear, IsHigh, Reaches, Exceeds}
use Rattle.game_model.proofs.Choices.{denominator-pos}

-- the unit is positive
unit-pos : 0 < unit
unit-pos = lit< tt

pub near-reached : (u a b v n d m : ℕ) → 0 < u → a * u ≤ v * b → m * v * d ≤ u * (m * n + d)
    → a * m * d ≤ b * (m * n + d)
near-reached u a b v n d m positive bound near =
    let whole : u * (a * m * d) ≤ u * (b * (m * n + d)) =
    omega (arith, mul-le-mul_right (m * d) bound, mul-le-mul_left b near) in
    le_of_mul-le-mul_left whole positive

-- a near value that is at least the bound shows that it is reached
pub IsNear-reaches : (q : Query) (table : ℕ → ℕ) (a b s : ℕ) → IsNear q table → s < length q.game
    → a * unit ≤ table s * b → Reaches q a b s
IsNear-reaches q table a b s near inside bound = λ m some.
    let at = near m some in (
      at.0,
      near-reached unit a b (table s) (numerator q at.0 s) (denominator q.game ^ at.0) m unit-pos bound (at.1 s inside),
    )

pub near-exceeded : (u a b v n d m : ℕ) → 0 < d → m ≡ b * u + 1 → a * u + 1 ≤ v * b
    → m * v * d ≤ u * (m * n + d) → a * d < b * n
near-exceeded u a b v n d m positive is bound near = elim (cases_lt (a * d) (b * n)) [
  | inl less ↦ less
  | inr most ↦
      let rest : m * d ≤ b * u * d =
      omega (arith, mul-le-mul_right (m * d) bound, mul-le-mul_left b near, mul-le-mul_left (u * m) most) in
      let more : m * d ≡ (b * u + 1) * d = ap (λ x. x * d) is in
      absurd (omega (arith, rest, more, positive))
]

-- a near value that is above the bound shows that it is exceeded
pub IsNear-exceeds : (q : Query) (table : ℕ → ℕ) (a b s : ℕ) → IsQuery q → IsNear q table → s < length q.game
    → a * unit < table s * b → Exceeds q a b s
IsNear-exceeds q table a b s h near inside bound =
    let m : ℕ = b * unit + 1 in
    let at = near m (omega arith) in (
      at.0,
      near-exceeded unit a b (table s) (numerator q at.0 s) (denominator q.game ^ at.0) m
          (one-le-pow at.0 (denominator q.game) (denominator-pos q.game h.game)) refl
          (omega (arith, bound)) (at.1 s inside),
    )

low-near : (m v d u n : ℕ) → v * d ≤ u * n → m * v * d ≤ u * (m * n + d)
low-near m v d u n low = omega (arith, mul-le-mul_left m low)

-- a low table is near: its one horizon serves each m
pub IsLow-near : (q : Query) (table : ℕ → ℕ) → IsLow q table → IsNear q table
IsLow-near q table low = λ m some. (
  low.horizon,
  λ s inside. low-near m (table s) (denominator q.game ^ low.horizon) unit (numerator q low.horizon s)
      (low.below s inside),
)

pub IsLow-reaches : (q : Query) (table : ℕ → ℕ) (a b s : ℕ) → IsLow q table → s < length q.game
    → a * unit ≤ table s * b → Reaches q a b s
IsLow-reaches q table a b s low = IsNear-reaches q table a b s (IsLow-near q table low)

pub IsLow-exceeds : (q : Query) (table : ℕ → ℕ) (a b s : ℕ) → IsQuery q → IsLow q table → s < length q.game
    → a * unit < table s * b → Exceeds q a b s
IsLow-exceeds q table a b s h low = IsNear-exceeds q table a b s h (IsLow-near q table low)

pub not-exceeded : (top a b u n d : ℕ) → 0 < top → u * b ≤ a * top → top * n ≤ u * d → b * n ≤ a * d
not-exceeded top a b u n d some bound high =
    let whole : top * (b * n) ≤ top * (a * d) = omega (arith, mul-le-mul_right d bound, mul-le-mul_left b high) in
    le_of_mul-le-mul_left whole some

-- an upper value that is at most the bound shows that it is not exceeded
pub IsHigh-not-exceeds : (q : Query) (table : ℕ → ℕ) (a b s : ℕ) → IsHigh q table → s < length q.game
    → table s * b ≤ a * unit → Exceeds q a b s → ⊥
IsHigh-not-exceeds q table a b s high inside bound exceeds =
    let most : b * numerator q exceeds.0 s ≤ a * denominator q.game ^ exceeds.0 = not-exceeded unit a b (table s)
    (numerator q exceeds.0 s) (denominator q.game ^ exceeds.0) unit-pos bound (high exceeds.0 s inside) in
    omega (arith, exceeds.1)

pub not-reached : (top a b u n d m : ℕ) → 0 < d → u * b + 1 ≤ a * top → top * n ≤ u * d
    → a * m * d ≤ b * (m * n + d) → m ≤ b * top
not-reached top a b u n d m positive bound high near =
    let whole : d * m ≤ d * (b * top) =
    omega (arith, mul-le-mul_right (m * d) bound, mul-le-mul_left (m * b) high, mul-le-mul_left top near) in
    le_of_mul-le-mul_left whole positive

-- an upper value that is below the bound shows that it is not reached
pub IsHigh-not-reaches : (q : Query) (table : ℕ → ℕ) (a b s : ℕ) → IsQuery q → IsHigh q table → s < length q.game
    → table s * b < a * unit → Reaches q a b s → ⊥
IsHigh-not-reaches q table a b s h high inside bound reaches =
    let m : ℕ = b * unit + 1 in
    let at : (k : ℕ) × (a * m * denominator q.game ^ k ≤ b * (m * numerator q k s + denominator q.game ^ k)) =
    reaches m (omega arith) in
    let most : m ≤ b * unit = not-reached unit a b (table s) (numerator q at.0 s) (denominator q.game ^ at.0) m
    (one-le-pow at.0 (denominator q.game) (denominator-pos q.game h.game)) (omega (arith, bound))
    (high at.0 s inside) at.1 in
    omega arith
