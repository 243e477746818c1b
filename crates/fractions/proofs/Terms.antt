-- Decimals in lowest terms.
use Rattle.std.proofs.Common.{◌≡◌, ◌≢◌, ◌∙◌, ℕ, zero, suc, ◌+◌, ◌-◌, ◌*◌, ◌%◌, ◌^◌, ◌<◌, ◌≤◌, ◌⊎◌, inl, inr, refl, sym}
use Rattle.std.proofs.Common.{ap, subst, arith, true, false, Err, pow-add}
use Rattle.std.specs.Prelude.{nat_lt, ◌==◌}
use Prim.Native.Nat.{◌∣◌}
use Rattle.std.specs.Int.{IsGcd}
use Rattle.std.proofs.lemmas.Nat.Gcd.{dvd_trans, IsGcd-from_mod}
use Rattle.std.proofs.lemmas.Nat.{mul-pow}
use Rattle.std.proofs.lemmas.Bool.{lt-ltb}
use Rattle.std.proofs.Math.Nat.{one-dvd, dvd-mul_right, pow-zero, mul-le-mul_right}
use Rattle.fractions.specs.declared.number.NumberFault.TheVariants.{TooFine, TooLarge}
use Rattle.fractions.specs.Limits.{finest, most_value}
use Rattle.fractions.specs.Fraction.{Fraction, lowest}
use Rattle.fractions.specs.Number.{in_range, fraction_said}
use Rattle.fractions.proofs.Euclid.{coprime-one, coprime-mul, coprime-pow, lowest-is, lowest-like}
use Rattle.fractions.proofs.Powers.{pow-pos, pow-rises}

-- 1. Powers of ten.

pub ten_pow : (n : ℕ) → 10 ^ n ≡ 2 ^ n * 5 ^ n
ten_pow n = mul-pow 2 5 n

pub odd : (n : ℕ) → n % 2 ≢ 0 → IsGcd n 2 1
odd n h =
    let one : n % 2 ≡ 1 = omega arith in
    let P : ℕ → Type 0 = λ m. IsGcd 2 m 1 in
    IsGcd-from_mod n 2 1 (subst P (sym one) (coprime-one 2))

rest-five : (r : ℕ) → r ≢ 0 → r < 5 → IsGcd 5 r 1
rest-five zero some small = absurd (some refl)
rest-five (suc zero) some small = coprime-one 5
rest-five (suc (suc zero)) some small = IsGcd-from_mod 5 2 1 (coprime-one 2)
rest-five (suc (suc (suc zero))) some small = IsGcd-from_mod 5 3 1 (IsGcd-from_mod 3 2 1 (coprime-one 2))
rest-five (suc (suc (suc (suc zero)))) some small = IsGcd-from_mod 5 4 1 (coprime-one 4)
rest-five (suc (suc (suc (suc (suc r))))) some small = absurd (omega arith)

pub fiveless : (n : ℕ) → n % 5 ≢ 0 → IsGcd n 5 1
fiveless n h = IsGcd-from_mod n 5 1 (rest-five (n % 5) h (omega arith))

no-power : (n f i : ℕ) → i ≡ 0 → IsGcd n (f ^ i) 1
no-power n f i e =
    let P : ℕ → Type 0 = λ m. IsGcd n (f ^ m) 1 in
    let Q : ℕ → Type 0 = λ m. IsGcd n m 1 in
    subst P (sym e) (subst Q (sym (pow-zero f)) (coprime-one n))

pub divisor-coprime : (m n a : ℕ) → m ∣ n → IsGcd n a 1 → IsGcd m a 1
divisor-coprime m n a d h = (one-dvd m, one-dvd a, λ e p q. h.2 e (dvd_trans e p d) q)

-- 2. A decimal whose twos and fives are taken out.

-- what taking out has left of the digits and of the power of ten
pub record TakenOut (digits odd num tens twos fives : ℕ) : Type 0 where
  pub some : 1 ≤ digits
  pub first : digits ≡ odd * 2 ^ (tens - twos)
  pub first_left : twos ≤ tens
  pub first_out : (twos ≡ 0) ⊎ (odd % 2 ≢ 0)
  pub second : odd ≡ num * 5 ^ (tens - fives)
  pub second_left : fives ≤ tens
  pub second_out : (fives ≡ 0) ⊎ (num % 5 ≢ 0)

pub TakenOut-coprime : (digits odd num tens twos fives : ℕ) → TakenOut digits odd num tens twos fives
    → IsGcd num (2 ^ twos * 5 ^ fives) 1
TakenOut-coprime digits odd_ num tens twos fives h =
    let P : ℕ → Type 0 = λ n. num ∣ n in
    let divides : num ∣ odd_ = subst P (sym h.second) (dvd-mul_right num (5 ^ (tens - fives))) in
    let two : IsGcd num (2 ^ twos) 1 = elim h.first_out [
      | inl e ↦ no-power num 2 twos e
      | inr e ↦ coprime-pow num 2 twos (divisor-coprime num odd_ 2 divides (odd odd_ e))
    ] in
    let five : IsGcd num (5 ^ fives) 1 =
    elim h.second_out [ inl e ↦ no-power num 5 fives e | inr e ↦ coprime-pow num 5 fives (fiveless num e) ] in
    coprime-mul num (2 ^ twos) (5 ^ fives) two five

split : (a n i : ℕ) → i ≤ n → a ^ n ≡ a ^ (n - i) * a ^ i
split a n i h = let e : n ≡ (n - i) + i = omega arith in ap (λ m. a ^ m) e ∙ pow-add a (n - i) i

pub powers-some : (i j : ℕ) → 1 ≤ 2 ^ i * 5 ^ j
powers-some i j = go (2 ^ i) (5 ^ j) (pow-pos 2 i (omega arith)) (pow-pos 5 j (omega arith))
  where
    go : (x y : ℕ) → 1 ≤ x → 1 ≤ y → 1 ≤ x * y
    go (suc x) (suc y) p q = omega arith
    go zero y p q = absurd (omega arith)
    go (suc x) zero p q = absurd (omega arith)

pub TakenOut-lowest : (digits odd num tens twos fives : ℕ) → TakenOut digits odd num tens twos fives
    → lowest (record { num = digits; den = 10 ^ tens }) ≡ record { num = num; den = 2 ^ twos * 5 ^ fives }
TakenOut-lowest digits odd_ num tens twos fives h =
    let whole : digits ≡ num * 5 ^ (tens - fives) * 2 ^ (tens - twos) =
    h.first ∙ ap (λ n. n * 2 ^ (tens - twos)) h.second in
    let ten : 10 ^ tens ≡ (2 ^ (tens - twos) * 2 ^ twos) * (5 ^ (tens - fives) * 5 ^ fives) =
    ten_pow tens ∙ ap (λ n. n * 5 ^ tens) (split 2 tens twos h.first_left)
    ∙ ap (λ n. (2 ^ (tens - twos) * 2 ^ twos) * n) (split 5 tens fives h.second_left) in
    lowest-is (record { num = digits; den = 10 ^ tens }) (record { num = num; den = 2 ^ twos * 5 ^ fives })
    (pow-pos 10 tens (omega arith)) (powers-some twos fives) (TakenOut-coprime digits odd_ num tens twos fives h)
    (ap (λ n. num * n) ten ∙ product num (2 ^ (tens - twos)) (2 ^ twos) (5 ^ (tens - fives)) (5 ^ fives)
    ∙ ap (λ n. n * (2 ^ twos * 5 ^ fives)) (sym whole))
  where
    product : (n a b c d : ℕ) → n * ((a * b) * (c * d)) ≡ (n * c * a) * (b * d)
    product n a b c d = omega arith

-- 3. What is said of a fraction.

pub lowest-zero : (num den : ℕ) → num ≡ 0 → 1 ≤ den
    → lowest (record { num = num; den = den }) ≡ record { num = 0; den = 1 }
lowest-zero num den e h =
    lowest-is (record { num = num; den = den }) (record { num = 0; den = 1 }) h (omega arith) (coprime-one 0)
    (omega (arith, ap (λ n. n * 1) e))

pub said-above_zero : (f : Fraction) → 1 ≤ f.den → fraction_said f ≡ in_range (lowest f)
said-above_zero f h = let e : (f.den == 0) ≡ false = grind arith in rw e

pub fine-said : (f : Fraction) → finest < f.den → in_range f ≡ Err TooFine
fine-said f h = let e : nat_lt finest f.den ≡ true = grind arith in rw e

-- a power of ten above and below the line
pub lowest-shifted : (digits up down : ℕ) → up ≤ down → lowest (record { num = digits * 10 ^ up; den = 10 ^ down })
    ≡ lowest (record { num = digits; den = 10 ^ (down - up) })
lowest-shifted digits up down h =
    lowest-like (record { num = digits * 10 ^ up; den = 10 ^ down }) (record { num = digits; den = 10 ^ (down - up) })
    (pow-pos 10 down (omega arith)) (pow-pos 10 (down - up) (omega arith))
    (product digits (10 ^ up) (10 ^ (down - up)) ∙ ap (λ n. digits * n) (sym (split 10 down up h)))
  where
    product : (n a b : ℕ) → n * a * b ≡ n * (b * a)
    product n a b = omega arith

pub lowest-whole : (digits up down : ℕ) → down ≤ up
    → lowest (record { num = digits * 10 ^ up; den = 10 ^ down }) ≡ record { num = digits * 10 ^ (up - down); den = 1 }
lowest-whole digits up down h =
    lowest-is (record { num = digits * 10 ^ up; den = 10 ^ down }) (record { num = digits * 10 ^ (up - down); den = 1 })
    (pow-pos 10 down (omega arith)) (omega arith) (coprime-one (digits * 10 ^ (up - down)))
    (product digits (10 ^ (up - down)) (10 ^ down) ∙ ap (λ n. digits * n * 1) (sym (split 10 up down h)))
  where
    product : (n a b : ℕ) → n * a * b ≡ n * (a * b) * 1
    product n a b = omega arith

-- a multiple of ten is too large
pub large-said : (digits up down : ℕ) → 1 ≤ digits → down < up
    → in_range (record { num = digits * 10 ^ (up - down); den = 1 }) ≡ Err TooLarge
large-said digits up down some h =
    let ten : 10 ^ 1 ≤ 10 ^ (up - down) = pow-rises 10 1 (up - down) (omega arith) (omega arith) in
    let more : 1 * 10 ^ (up - down) ≤ digits * 10 ^ (up - down) = mul-le-mul_right (10 ^ (up - down)) some in
    let large : nat_lt (most_value * 1) (digits * 10 ^ (up - down)) ≡ true =
    lt-ltb (most_value * 1) (digits * 10 ^ (up - down)) (omega arith) in
    rw large
