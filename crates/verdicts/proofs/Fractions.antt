-- A verdict over bounds of a fraction is true.
use Rattle.std.proofs.Common.{◌≡◌, ℕ, ◌+◌, ◌*◌, ◌<◌, ◌≤◌, Bool, true, false, not, refl, arith, lit<}
use Rattle.std.proofs.lemmas.Bool.{leb-true, leb-false, ltb-true, ltb-false, not-true}
use Rattle.std.proofs.Math.Nat.{mul-le-mul_right, le_of_mul-le-mul_left, lt_of_mul-lt-mul_left}
use Rattle.game_model.specs.Limits.{unit}
use Rattle.formula_reader.specs.declared.formula.Bound.{Bound}
use Rattle.formula_reader.specs.declared.formula.Bound.TheVariants.{AtLeast, Above, AtMost, Below, AskMax, AskMin}
use Rattle.rpatl_syntax.specs.Dual.{IsMetBy}
use Rattle.verdicts.specs.Exact.{IsRight}
use Rattle.verdicts.specs.Verdict.{verdict_by, verdict_of}

-- over any unit: a threshold a/b that a lower bound reaches is at most n/d, and one that it exceeds is below
pub reached : (u a b l n d : ℕ) → 0 < u → l * d ≤ u * n → a * u ≤ l * b → a * d ≤ n * b
reached u a b l n d positive low bound =
    let whole : u * (a * d) ≤ u * (n * b) = omega (arith, mul-le-mul_right d bound, mul-le-mul_right b low) in
    le_of_mul-le-mul_left whole positive

pub exceeded : (u a b l n d : ℕ) → 1 ≤ d → l * d ≤ u * n → a * u < l * b → a * d < n * b
exceeded u a b l n d some low bound =
    let more : (a * u + 1) * d ≤ l * b * d = mul-le-mul_right d (omega (arith, bound)) in
    let whole : u * (a * d) < u * (n * b) = omega (arith, more, some, mul-le-mul_right b low) in
    lt_of_mul-lt-mul_left u whole

-- and one that an upper bound does not exceed is at least n/d, and one that it does not reach above it
pub not_exceeded : (u a b h n d : ℕ) → 0 < u → u * n ≤ h * d → h * b ≤ a * u → n * b ≤ a * d
not_exceeded u a b h n d positive high bound =
    let whole : u * (n * b) ≤ u * (a * d) = omega (arith, mul-le-mul_right b high, mul-le-mul_right d bound) in
    le_of_mul-le-mul_left whole positive

pub not_reached : (u a b h n d : ℕ) → 1 ≤ d → u * n ≤ h * d → h * b < a * u → n * b < a * d
not_reached u a b h n d some high bound =
    let more : (h * b + 1) * d ≤ a * u * d = mul-le-mul_right d (omega (arith, bound)) in
    let whole : u * (n * b) < u * (a * d) = omega (arith, more, some, mul-le-mul_right b high) in
    lt_of_mul-lt-mul_left u whole

-- what two tests say of a fraction is right, where each of them is
right_by : (bound : Bound) (n d : ℕ) (holds fails : Bool) → (holds ≡ true → IsMetBy bound n d)
    → (fails ≡ true → ¬ IsMetBy bound n d) → IsRight bound n d (verdict_by holds fails)
right_by bound n d true fails if_holds if_fails = if_holds refl
right_by bound n d false true if_holds if_fails = if_fails refl
right_by bound n d false false if_holds if_fails = tt

unit-pos : 0 < unit
unit-pos = lit< tt

pub right : (bound : Bound) (n d lower upper : ℕ) → 1 ≤ d → lower * d ≤ unit * n → unit * n ≤ upper * d
    → IsRight bound n d (verdict_of bound lower upper)
right (AtLeast p) n d lower upper some low high =
    right_by (AtLeast p) n d _ _ (λ e. reached unit p.num p.den lower n d unit-pos low (leb-true _ _ e))
    (λ e holds. let below = not_reached unit p.num p.den upper n d some high (leb-false _ _ (not-true _ e)) in
    absurd (omega (arith, below, holds)))
right (Above p) n d lower upper some low high =
    right_by (Above p) n d _ _ (λ e. exceeded unit p.num p.den lower n d some low (ltb-true _ _ e))
    (λ e holds. let below = not_exceeded unit p.num p.den upper n d unit-pos high (ltb-false _ _ (not-true _ e)) in
    absurd (omega (arith, below, holds)))
right (AtMost p) n d lower upper some low high =
    right_by (AtMost p) n d _ _
    (λ e. not_exceeded unit p.num p.den upper n d unit-pos high (ltb-false _ _ (not-true _ e)))
    (λ e holds. let above = exceeded unit p.num p.den lower n d some low (ltb-true _ _ e) in
    absurd (omega (arith, above, holds)))
right (Below p) n d lower upper some low high =
    right_by (Below p) n d _ _ (λ e. not_reached unit p.num p.den upper n d some high (leb-false _ _ (not-true _ e)))
    (λ e holds. let above = reached unit p.num p.den lower n d unit-pos low (leb-true _ _ e) in
    absurd (omega (arith, above, holds)))
right AskMax n d lower upper some low high = tt
right AskMin n d lower upper some low high = tt
