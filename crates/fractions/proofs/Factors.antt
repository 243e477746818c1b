-- Factors that are taken out of both numbers of a fraction.
use Rattle.std.proofs.Common.{◌≡◌, ◌≢◌, ◌∙◌, ℕ, zero, suc, ◌+◌, ◌-◌, ◌*◌, ◌/◌, ◌%◌, ◌^◌, ◌<◌, ◌≤◌, ◌⊎◌, inl, inr, sym}
use Rattle.std.proofs.Common.{ap, subst, arith}
use Prim.Native.Nat.{◌∣◌}
use Rattle.std.specs.Int.{IsGcd, bit_at, trailing_zeros, w64}
use Rattle.std.proofs.lemmas.Nat.Gcd.{dvd_refl, dvd_trans, dvd_of_mod-eq-zero, mod-eq-zero_of_dvd}
use Rattle.std.proofs.lemmas.Nat.Bits.{bit_at-trailing_zeros}
use Rattle.std.proofs.lemmas.Nat.{pow-add}
use Rattle.std.proofs.Math.Nat.{one-dvd, dvd-mul_right, pow-zero, pow-suc, mul-dvd-mul_left, div-mul_cancel}
use Rattle.std.proofs.Math.Nat.{mul-div_cancel, mul-div_cancel', mul_right_comm, mul_assoc}
use Rattle.fractions.specs.Fraction.{Fraction}
use Rattle.fractions.specs.Number.{in_range, fraction_said}
use Rattle.fractions.proofs.Euclid.{coprime-mul, coprime-pow, dvd-pos, lowest-is}
use Rattle.fractions.proofs.Terms.{odd, fiveless, divisor-coprime, said-above_zero}

-- 1. Powers of two.

pub pow_divides : (a i j : ℕ) → i ≤ j → a ^ i ∣ a ^ j
pow_divides a i j h =
    let split : i + (j - i) ≡ j = omega arith in
    let P : ℕ → Type 0 = λ n. a ^ i ∣ n in
    subst P (sym (pow-add a i (j - i)) ∙ ap (λ n. a ^ n) split) (dvd-mul_right (a ^ i) (a ^ (j - i)))

-- a number whose lowest digits of two are 0
lows-divide : (n t : ℕ) → ((i : ℕ) → i < t → bit_at n i ≡ 0) → 2 ^ t ∣ n
lows-divide n zero h = let P : ℕ → Type 0 = λ m. m ∣ n in subst P (sym (pow-zero 2)) (one-dvd n)
lows-divide n (suc t) h =
    let less : 2 ^ t ∣ n = lows-divide n t (λ i l. h i (omega arith)) in
    let even : 2 ∣ n / 2 ^ t = dvd_of_mod-eq-zero 2 (h t (omega arith)) in
    let P : ℕ → Type 0 = λ m. m ∣ n in
    let Q : ℕ → Type 0 = λ m. 2 ^ t * 2 ∣ m in
    subst P (sym (pow-suc 2 t)) (subst Q (mul-div_cancel' (2 ^ t) less) (mul-dvd-mul_left _ (2 ^ t) even))

pub twos_divide : (n : ℕ) → 1 ≤ n → n < 2 ^ 64 → 2 ^ trailing_zeros w64 n ∣ n
twos_divide n some small = lows-divide n (trailing_zeros w64 n) (bit_at-trailing_zeros w64 n some small).2

pub twos_out : (n : ℕ) → 1 ≤ n → n < 2 ^ 64 → n / 2 ^ trailing_zeros w64 n % 2 ≢ 0
twos_out n some small = λ e. omega (arith, (bit_at-trailing_zeros w64 n some small).1)

-- 2. Both numbers over a factor.

pub value_over : (f a b num den : ℕ) → 1 ≤ f → f ∣ num → f ∣ den → num * b ≡ a * den → (num / f) * b ≡ a * (den / f)
value_over f a b num den some n d same =
    let whole : (num / f) * b * f ≡ a * (den / f) * f =
    mul_right_comm (num / f) b f ∙ ap (λ m. m * b) (div-mul_cancel f n) ∙ same
    ∙ ap (λ m. a * m) (sym (div-mul_cancel f d)) ∙ sym (mul_assoc a (den / f) f) in
    sym (mul-div_cancel ((num / f) * b) some) ∙ ap (λ m. m / f) whole ∙ mul-div_cancel (a * (den / f)) some

pub over_divides : (f n m : ℕ) → f ∣ n → n ∣ m → n / f ∣ m
over_divides f n m d h =
    let P : ℕ → Type 0 = λ k. n / f ∣ k in
    dvd_trans (n / f) (subst P (div-mul_cancel f d) (dvd-mul_right (n / f) f)) h

-- 3. Lowest terms.

-- a divisor of a number has no factor that the number has not
pub still_out : (f m n : ℕ) → m ∣ n → n % f ≢ 0 → m % f ≢ 0
still_out f m n d out = λ e. out (mod-eq-zero_of_dvd f (dvd_trans f (dvd_of_mod-eq-zero f e) d))

-- without a two on one side and without a five on one side
pub tens_lowest : (num den : ℕ) → den ∣ 10 ^ 19 → (num % 2 ≢ 0) ⊎ (den % 2 ≢ 0)
    → (num % 5 ≢ 0) ⊎ (den % 5 ≢ 0) → IsGcd num den 1
tens_lowest num den tens two five = (one-dvd num, one-dvd den, common)
  where
    apart : (e f : ℕ) → e ∣ num → e ∣ den → ((n : ℕ) → n % f ≢ 0 → IsGcd n f 1)
        → (num % f ≢ 0) ⊎ (den % f ≢ 0) → IsGcd e f 1
    apart e f p q lacks out = elim out [
      | inl n ↦ divisor-coprime e num f p (lacks num n)
      | inr d ↦ divisor-coprime e den f q (lacks den d)
    ]

    common : (e : ℕ) → e ∣ num → e ∣ den → e ∣ 1
    common e p q =
        let twos : IsGcd e (2 ^ 19) 1 = coprime-pow e 2 19 (apart e 2 p q odd two) in
        let fives : IsGcd e (5 ^ 19) 1 = coprime-pow e 5 19 (apart e 5 p q fiveless five) in
        let both : IsGcd e (10 ^ 19) 1 = coprime-mul e (2 ^ 19) (5 ^ 19) twos fives in
        both.2 e (dvd_refl e) (dvd_trans e q tens)

pub tens_some : (den : ℕ) → den ∣ 10 ^ 19 → 1 ≤ den
tens_some den h = dvd-pos den (10 ^ 19) (omega arith) h

-- what is said of a fraction, by one of the same value in lowest terms
pub said_lowest : (a b num den : ℕ) → 1 ≤ b → 1 ≤ den → IsGcd num den 1 → num * b ≡ a * den
    → fraction_said (record { num = a; den = b }) ≡ in_range (record { num = num; den = den })
said_lowest a b num den hb hd is same =
    let fraction : ℕ → ℕ → Fraction = λ n d. record { num = n; den = d } in
    said-above_zero (fraction a b) hb ∙ ap in_range (lowest-is (fraction a b) (fraction num den) hb hd is same)
