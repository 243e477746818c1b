-- A reward in units is at most the exact one, or at least that, also in the sum of a turn.
use Rattle.std.proofs.Common.{◌≡◌, ℕ, ◌+◌, ◌*◌, ◌^◌, ◌<◌, ◌≤◌, min, arith, ap}
use Rattle.std.proofs.Math.Nat.{le_of_mul-le-mul_left, mul-le-mul_left, div-mul-le_self}
use Rattle.std.proofs.lemmas.Grind.{div_ceil_times}
use Rattle.game_model.specs.Limits.{unit}
use Rattle.fractions.specs.Fraction.{Fraction, SameValue}
use Rattle.reward_units.specs.Units.{most_units, all_below, all_above, units_below, units_above}
use Rattle.reward_units.specs.Exact.{sum_of}

-- all units, rounded down, are at most the reward
all-below-times : (f : Fraction) (places : ℕ) → all_below f places * f.den ≤ f.num * 10 ^ places
all-below-times f places = div-mul-le_self (f.num * 10 ^ places) f.den

-- all units, rounded up, are at least the reward
all-above-times : (f : Fraction) (places : ℕ) → 1 ≤ f.den → f.num * 10 ^ places ≤ all_above f places * f.den
all-above-times f places some = (div_ceil_times (f.num * 10 ^ places) f.den some).0

least-times : (n d most : ℕ) → min n most * d ≤ n * d
least-times n d most =
    let less : min n most ≤ n = omega arith in omega (arith, mul-le-mul_left d less)

-- units that are rounded down are at most the reward
pub below-times : (f : Fraction) (places : ℕ) → units_below f places * f.den ≤ f.num * 10 ^ places
below-times f places =
    omega (arith, least-times (all_below f places) f.den most_units, all-below-times f places)

uncapped-times : (n d most : ℕ) → min n most < most → n * d ≤ min n most * d
uncapped-times n d most small =
    let is : n ≤ min n most = omega (arith, small) in omega (arith, mul-le-mul_left d is)

-- units that are rounded up are at least the reward, unless they are too many for a value
pub above-times : (f : Fraction) (places : ℕ) → 1 ≤ f.den → units_above f places ≤ unit
    → f.num * 10 ^ places ≤ units_above f places * f.den
above-times f places some small =
    let less : units_above f places < most_units = omega (arith, small) in
    omega (arith, uncapped-times (all_above f places) f.den most_units less, all-above-times f places some)

-- x/p is at most a/b, and y/p at most c/d: so is their sum, w/e
below-factors : (a b c d e w p x y : ℕ) → 1 ≤ b → 1 ≤ d → w * (b * d) ≡ (a * d + c * b) * e → x * b ≤ a * p
    → y * d ≤ c * p → e * (x + y) ≤ p * w
below-factors a b c d e w p x y some more same one two =
    let first : (e * d) * (x * b) ≤ (e * d) * (a * p) = mul-le-mul_left (e * d) one in
    let second : (e * b) * (y * d) ≤ (e * b) * (c * p) = mul-le-mul_left (e * b) two in
    let total : p * (w * (b * d)) ≡ p * ((a * d + c * b) * e) = ap (λ n. p * n) same in
    let all : (b * d) * (e * (x + y)) ≤ (b * d) * (p * w) = omega (arith, first, second, total) in
    le_of_mul-le-mul_left {k = b * d} all (omega (arith, mul-le-mul_left b more, some))

-- x/p is at least a/b, and y/p at least c/d: so is their sum, w/e
above-factors : (a b c d e w p x y : ℕ) → 1 ≤ b → 1 ≤ d → w * (b * d) ≡ (a * d + c * b) * e → a * p ≤ x * b
    → c * p ≤ y * d → p * w ≤ e * (x + y)
above-factors a b c d e w p x y some more same one two =
    let first : (e * d) * (a * p) ≤ (e * d) * (x * b) = mul-le-mul_left (e * d) one in
    let second : (e * b) * (c * p) ≤ (e * b) * (y * d) = mul-le-mul_left (e * b) two in
    let total : p * (w * (b * d)) ≡ p * ((a * d + c * b) * e) = ap (λ n. p * n) same in
    let all : (b * d) * (p * w) ≤ (b * d) * (e * (x + y)) = omega (arith, first, second, total) in
    le_of_mul-le-mul_left {k = b * d} all (omega (arith, mul-le-mul_left b more, some))

-- the sum of two rewards, each rounded down
pub below-sum : (f g : Fraction) (places den w : ℕ) → 1 ≤ f.den → 1 ≤ g.den
    → SameValue (record { num = w; den = den }) (sum_of f g)
    → den * (all_below f places + all_below g places) ≤ 10 ^ places * w
below-sum f g places den w some more same =
    below-factors f.num f.den g.num g.den den w (10 ^ places) (all_below f places) (all_below g places) some more
    same (all-below-times f places) (all-below-times g places)

-- the sum of two rewards, each rounded up
pub above-sum : (f g : Fraction) (places den w : ℕ) → 1 ≤ f.den → 1 ≤ g.den
    → SameValue (record { num = w; den = den }) (sum_of f g)
    → 10 ^ places * w ≤ den * (all_above f places + all_above g places)
above-sum f g places den w some more same =
    above-factors f.num f.den g.num g.den den w (10 ^ places) (all_above f places) (all_above g places) some more
    same (all-above-times f places some) (all-above-times g places more)
