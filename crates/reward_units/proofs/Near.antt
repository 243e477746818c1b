-- Units that are rounded down and up are near, and go by the value of the reward.
use Rattle.std.proofs.Common.{◌≡◌, ℕ, ◌+◌, ◌*◌, ◌/◌, ◌%◌, ◌^◌, ◌<◌, ◌≤◌, min, arith, ap, ◌∙◌, sym}
use Rattle.std.specs.Int.{div_ceil}
use Rattle.std.proofs.Math.Nat.{mul-le-mul_left, lt_of_mul-lt-mul_right, div-mul-le_self, lt-div-mul-add}
use Rattle.std.proofs.lemmas.Nat.{mod-mul-add}
use Rattle.std.proofs.lemmas.Grind.{div_ceil_times}
use Rattle.fractions.specs.Fraction.{Fraction, SameValue}
use Rattle.reward_units.specs.Units.{most_units, capped, units_below, units_above}

ordered : (n r most : ℕ) → min n most ≤ min (n + min 1 r) most
ordered n r most = omega arith

apart : (n r most : ℕ) → min (n + min 1 r) most ≤ min n most + 1
apart n r most = omega arith

alike : (n r most : ℕ) → r ≡ 0 → min n most ≡ min (n + min 1 r) most
alike n r most none = omega (arith, none)

pub below-le-above : (f : Fraction) (places : ℕ) → units_below f places ≤ units_above f places
below-le-above f places = ordered (f.num * 10 ^ places / f.den) (f.num * 10 ^ places % f.den) most_units

pub above-le-next : (f : Fraction) (places : ℕ) → units_above f places ≤ units_below f places + 1
above-le-next f places = apart (f.num * 10 ^ places / f.den) (f.num * 10 ^ places % f.den) most_units

no-rest : (n units den : ℕ) → 1 ≤ den → n ≡ units * den → n % den ≡ 0
no-rest n units den some is =
    let whole : n ≡ units * den + 0 = omega (arith, is) in
    ap (λ m. m % den) whole ∙ mod-mul-add units den 0 some

pub below-above : (f : Fraction) (places units : ℕ) → 1 ≤ f.den → f.num * 10 ^ places ≡ units * f.den
    → units_below f places ≡ units_above f places
below-above f places units some is =
    alike (f.num * 10 ^ places / f.den) (f.num * 10 ^ places % f.den) most_units
    (no-rest (f.num * 10 ^ places) units f.den some is)

-- n/b is m/d: a whole number that is at most the first is at most each that is not below the second by one
below-factors : (q p n m b d : ℕ) → 1 ≤ b → n * d ≡ m * b → q * b ≤ n → m < p * d + d → q ≤ p
below-factors q p n m b d some same first second =
    let low : d * (q * b) ≤ d * n = mul-le-mul_left d first in
    let high : b * (m + 1) ≤ b * (p * d + d) = mul-le-mul_left b (omega (arith, second)) in
    let less : q * (b * d) < (p + 1) * (b * d) = omega (arith, low, high, same, some) in
    let at : q < p + 1 = lt_of_mul-lt-mul_right (b * d) less in omega (arith, at)

above-factors : (q p n m b d : ℕ) → 1 ≤ d → n * d ≡ m * b → q * b < n + b → m ≤ p * d → q ≤ p
above-factors q p n m b d some same first second =
    let low : d * (q * b + 1) ≤ d * (n + b) = mul-le-mul_left d (omega (arith, first)) in
    let high : b * m ≤ b * (p * d) = mul-le-mul_left b second in
    let less : q * (b * d) < (p + 1) * (b * d) = omega (arith, low, high, same, some) in
    let at : q < p + 1 = lt_of_mul-lt-mul_right (b * d) less in omega (arith, at)

quotients-same : (n m b d : ℕ) → 1 ≤ b → 1 ≤ d → n * d ≡ m * b → n / b ≡ m / d
quotients-same n m b d some more same =
    let back : m * b ≡ n * d = sym same in
    omega (
      arith,
      below-factors (n / b) (m / d) n m b d some same (div-mul-le_self n b) (lt-div-mul-add more),
      below-factors (m / d) (n / b) m n d b more back (div-mul-le_self m d) (lt-div-mul-add some),
    )

ceilings-same : (n m b d : ℕ) → 1 ≤ b → 1 ≤ d → n * d ≡ m * b → div_ceil n b ≡ div_ceil m d
ceilings-same n m b d some more same =
    let back : m * b ≡ n * d = sym same in
    let one = div_ceil_times n b some in
    let two = div_ceil_times m d more in
    omega (
      arith,
      above-factors (div_ceil n b) (div_ceil m d) n m b d more same one.1 two.0,
      above-factors (div_ceil m d) (div_ceil n b) m n d b some back two.1 one.0,
    )

same-over : (a b c d p : ℕ) → a * d ≡ c * b → a * p * d ≡ c * p * b
same-over a b c d p same = omega (arith, ap (λ n. p * n) same)

pub below-value : (f g : Fraction) (places : ℕ) → 1 ≤ f.den → 1 ≤ g.den → SameValue f g
    → units_below f places ≡ units_below g places
below-value f g places some more same =
    ap capped (quotients-same (f.num * 10 ^ places) (g.num * 10 ^ places) f.den g.den some more
    (same-over f.num f.den g.num g.den (10 ^ places) same))

pub above-value : (f g : Fraction) (places : ℕ) → 1 ≤ f.den → 1 ≤ g.den → SameValue f g
    → units_above f places ≡ units_above g places
above-value f g places some more same =
    ap capped (ceilings-same (f.num * 10 ^ places) (g.num * 10 ^ places) f.den g.den some more
    (same-over f.num f.den g.num g.den (10 ^ places) same))
