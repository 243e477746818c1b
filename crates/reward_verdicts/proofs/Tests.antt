-- A threshold in whole units tells which bounds are at least it, and which are above it.
use Rattle.std.proofs.Common.{◌≡◌, ◌∙◌, ℕ, ◌+◌, ◌*◌, ◌/◌, ◌^◌, ◌<◌, ◌≤◌, nat_lt, nat_le, sym, inl, inr, arith}
use Rattle.std.proofs.Common.{ap, subst, Option, Some}
use Rattle.std.specs.Int.{div_ceil}
use Rattle.std.proofs.Math.Nat.{mul-le-mul_right, div-mul-le_self, lt-div-mul-add}
use Rattle.std.proofs.lemmas.Bool.{cases_lt, lt-ltb, le-ltb, le-leb, lt-leb}
use Rattle.std.proofs.lemmas.Grind.{div_ceil_times}
use Rattle.game_model.specs.Limits.{unit}
use Rattle.fractions.specs.Fraction.{Fraction}
use Rattle.reward_units.specs.Units.{capped, units_below, units_above}
use Rattle.reward_values.specs.Values.{IsValue}
use Rattle.reward_verdicts.specs.Verdict.{reaches, exceeds}

-- two tests give one answer if each follows from the other one
same-le : (x u y z : ℕ) → (x ≤ u → y ≤ z) → (u < x → z < y) → nat_le x u ≡ nat_le y z
same-le x u y z low high = elim (cases_lt u x) [
  | inl more ↦ lt-leb x u more ∙ sym (lt-leb y z (high more))
  | inr less ↦ le-leb x u less ∙ sym (le-leb y z (low less))
]

same-lt : (x u y z : ℕ) → (x < u → y < z) → (u ≤ x → z ≤ y) → nat_lt x u ≡ nat_lt y z
same-lt x u y z low high = elim (cases_lt x u) [
  | inl less ↦ lt-ltb x u less ∙ sym (lt-ltb y z (low less))
  | inr more ↦ le-ltb x u more ∙ sym (le-ltb y z (high more))
]

-- a bound is at least a/d exactly if it is at least a/d rounded up
reached-units : (a d u : ℕ) → 1 ≤ d → u ≤ unit → nat_le (capped (div_ceil a d)) u ≡ nat_le a (u * d)
reached-units a d u some small = same-le (capped (div_ceil a d)) u a (u * d) low high
  where
    times : (a ≤ div_ceil a d * d) × (div_ceil a d * d < a + d)
    times = div_ceil_times a d some

    uncapped : (n : ℕ) → capped n ≤ u → n ≤ u
    uncapped n less = omega (arith, less, small)

    low : capped (div_ceil a d) ≤ u → a ≤ u * d
    low less =
        let up : div_ceil a d * d ≤ u * d = mul-le-mul_right d (uncapped (div_ceil a d) less) in
        omega (arith, up, times.0)

    beyond : (n : ℕ) → u < capped n → u + 1 ≤ n
    beyond n more = omega (arith, more)

    high : u < capped (div_ceil a d) → u * d < a
    high more =
        let up : (u + 1) * d ≤ div_ceil a d * d = mul-le-mul_right d (beyond (div_ceil a d) more) in
        omega (arith, up, times.1)

-- a bound is above a/d exactly if it is above a/d rounded down
exceeded-units : (a d u : ℕ) → 1 ≤ d → u ≤ unit → nat_lt (capped (a / d)) u ≡ nat_lt a (u * d)
exceeded-units a d u some small = same-lt (capped (a / d)) u a (u * d) low high
  where
    uncapped : (n : ℕ) → capped n < u → n + 1 ≤ u
    uncapped n less = omega (arith, less, small)

    low : capped (a / d) < u → a < u * d
    low less =
        let up : (a / d + 1) * d ≤ u * d = mul-le-mul_right d (uncapped (a / d) less) in
        omega (arith, up, lt-div-mul-add {a = a} some)

    beyond : (n : ℕ) → u ≤ capped n → u ≤ n
    beyond n more = omega (arith, more)

    high : u ≤ capped (a / d) → u * d ≤ a
    high more =
        let up : u * d ≤ a / d * d = mul-le-mul_right d (beyond (a / d) more) in
        omega (arith, up, div-mul-le_self a d)

-- so the units of the threshold decide
pub reaches-by : (p : Fraction) (places n d above units : ℕ) (value : Option ℕ) → value ≡ Some units → IsValue value
    → n ≡ p.num → d ≡ p.den → 1 ≤ d → above ≡ units_above (record { num = n; den = d }) places
    → nat_le above units ≡ reaches p places value
reaches-by p places n d above units value is small num den some rounded =
    ap (λ m. nat_le m units) rounded ∙ reached-units (n * 10 ^ places) d units some (subst IsValue is small)
    ∙ ap (λ m. nat_le (m * 10 ^ places) (units * d)) num ∙ ap (λ m. nat_le (p.num * 10 ^ places) (units * m)) den
    ∙ ap (λ v. reaches p places v) (sym is)

pub exceeds-by : (p : Fraction) (places n d below units : ℕ) (value : Option ℕ) → value ≡ Some units → IsValue value
    → n ≡ p.num → d ≡ p.den → 1 ≤ d → below ≡ units_below (record { num = n; den = d }) places
    → nat_lt below units ≡ exceeds p places value
exceeds-by p places n d below units value is small num den some rounded =
    ap (λ m. nat_lt m units) rounded ∙ exceeded-units (n * 10 ^ places) d units some (subst IsValue is small)
    ∙ ap (λ m. nat_lt (m * 10 ^ places) (units * d)) num ∙ ap (λ m. nat_lt (p.num * 10 ^ places) (units * m)) den
    ∙ ap (λ v. exceeds p places v) (sym is)
