-- Powers of two and of five beside the finest denominator.
use Rattle.std.proofs.Common.{◌≡◌, ◌∙◌, ℕ, zero, suc, ◌+◌, ◌-◌, ◌*◌, ◌/◌, ◌%◌, ◌^◌, ◌<◌, ◌≤◌, sym, ap, add-one, arith}
use Rattle.std.proofs.Math.Nat.{div-mul_cancel, dvd_of_mod-eq-zero, mul_comm, mul_assoc, pow-suc, pow-zero}
use Rattle.std.proofs.Math.Nat.{mul-le-mul_left, mul-le-mul_right}
use Rattle.std.proofs.lemmas.Nat.{pow-add}
use Rattle.fractions.specs.Limits.{finest}
use Rattle.fractions.proofs.Euclid.{product_above, product_below}

pub pow-pos : (a n : ℕ) → 1 ≤ a → 1 ≤ a ^ n
pow-pos a zero h = omega (arith, pow-zero a)
pow-pos a (suc n) h = omega (arith, pow-suc a n, mul-le-mul_right a (pow-pos a n h))

-- powers rise
pub pow-rises : (a i j : ℕ) → 1 ≤ a → i ≤ j → a ^ i ≤ a ^ j
pow-rises a i j h le =
    let split : i + (j - i) ≡ j = omega arith in
    let power : a ^ j ≡ a ^ i * a ^ (j - i) = ap (λ n. a ^ n) (sym split) ∙ pow-add a i (j - i) in
    omega (arith, power, mul-le-mul_left (a ^ i) (pow-pos a (j - i) h))

pub many_twos : (i j : ℕ) → 80 ≤ i → finest < 2 ^ i * 5 ^ j
many_twos i j h = omega (arith, pow-rises 2 80 i (omega arith) h, mul-le-mul_left (2 ^ i) (pow-pos 5 j (omega arith)))

pub many_fives : (i j : ℕ) → 35 ≤ j → finest < 2 ^ i * 5 ^ j
many_fives i j h = omega (arith, pow-rises 5 35 j (omega arith) h, mul-le-mul_right (5 ^ j) (pow-pos 2 i (omega arith)))

pub two_fits : (i : ℕ) → i < 80 → 2 ^ i < 2 ^ 80
two_fits i h = omega (arith, pow-rises 2 i 79 (omega arith) (omega arith))

pub five_fits : (j : ℕ) → j < 35 → 5 ^ j ≤ 5 ^ 34
five_fits j h = pow-rises 5 j 34 (omega arith) (omega arith)

pub two_some : (i : ℕ) → 1 ≤ 2 ^ i
two_some i = pow-pos 2 i (omega arith)

pub five_some : (i : ℕ) → 1 ≤ 5 ^ i
five_some i = pow-pos 5 i (omega arith)

-- one factor more is taken out
pub taken_out : (n r f i j : ℕ) → 0 < f → j ≡ i + 1 → r % f ≡ 0 → n ≡ r * f ^ i → n ≡ (r / f) * f ^ j
taken_out n r f i j h e divides is =
    let whole : (r / f) * f ≡ r = div-mul_cancel f (dvd_of_mod-eq-zero f divides) in
    let more : f ^ j ≡ f * f ^ i = ap (λ m. f ^ m) (e ∙ add-one i) ∙ pow-suc f i ∙ mul_comm (f ^ i) f in
    is ∙ ap (λ m. m * f ^ i) (sym whole) ∙ mul_assoc (r / f) f (f ^ i) ∙ ap (λ m. (r / f) * m) (sym more)

-- of as many places as the finest denominator has
pub few_powers : (i j : ℕ) → i ≤ 23 → j ≤ 23 → 2 ^ i * 5 ^ j ≤ finest
few_powers i j hi hj =
    omega (
      arith,
      mul-le-mul_right (5 ^ j) (pow-rises 2 i 23 (omega arith) hi),
      mul-le-mul_left (2 ^ 23) (pow-rises 5 j 23 (omega arith) hj),
    )

-- products of powers, and those of few places
pub ruleset products = (many_twos, many_fives, two_fits, five_fits, five_some, product_above, product_below)

pub ruleset few_products = (few_powers, two_fits, five_fits)

-- a digit and at most 18 behind it
pub places_room : (d n : ℕ) → d ≤ 9 → n ≤ 18 → (d + 1) * 10 ^ n ≤ 10 ^ 19
places_room d n h few =
    let power : 10 ^ n ≤ 10 ^ 18 = pow-rises 10 n 18 (omega arith) few in
    omega (arith, mul-le-mul_left 10 power, (let most : d + 1 ≤ 10 = omega arith in mul-le-mul_right (10 ^ n) most))

-- one power of ten more
pub next_power : (den i : ℕ) → den ≡ 10 ^ i → den * 10 ≡ 10 ^ (i + 1)
next_power den i is = ap (λ n. n * 10) is ∙ sym (ap (λ n. 10 ^ n) (add-one i) ∙ pow-suc 10 i)

pub power_fits : (den i n : ℕ) → den ≡ 10 ^ i → i < n → n ≤ 18 → den * 10 ≤ 10 ^ 18
power_fits den i n is h few = omega (arith, next_power den i is, pow-rises 10 (i + 1) 18 (omega arith) (omega arith))
