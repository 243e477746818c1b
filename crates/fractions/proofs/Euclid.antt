-- Greatest common divisors, least common multiples and lowest terms.
use Rattle.std.proofs.Common.{◌≡◌, ◌∙◌, ℕ, zero, suc, ◌+◌, ◌*◌, ◌/◌, ◌%◌, ◌^◌, ◌<◌, ◌≤◌, sym, ap, refl, subst, arith}
use Prim.Native.Nat.{◌∣◌}
use Rattle.std.specs.Int.{IsGcd}
use Rattle.std.proofs.lemmas.Nat.Gcd.{dvd_refl, dvd-zero, dvd_trans, dvd_antisymm, IsGcd-from_zero, IsGcd-from_mod}
use Rattle.std.proofs.lemmas.Nat.Gcd.{IsGcd-swap, same_from_IsGcd}
use Rattle.std.proofs.lemmas.Nat.{mod-mul-add}
use Rattle.std.proofs.Math.Nat.{one-dvd, dvd-mul_left, dvd-mul_right, mul-dvd-mul_left, dvd_of_mul-dvd-mul_right}
use Rattle.std.proofs.Math.Nat.{div-mul_cancel, mul-div_cancel', mul-div_cancel, mul-lt-mul_of_pos_left, pow-suc}
use Rattle.std.proofs.Math.Nat.{pow-zero, eq-zero_of_zero-dvd, mul-div_cancel_left, div_self, one-mul}
use Rattle.std.proofs.Math.Nat.{div-lt_iff_lt-mul, div-mul-le_self, mul-le-mul_right, dvd_of_mod-eq-zero, mul_assoc}
use Rattle.std.proofs.Math.Nat.{mul_comm, mul_right_comm, mul-dvd-mul_right, mul-le-mul_left}
use Rattle.fractions.specs.Divisors.{gcd, gcd_within, lcm}
use Rattle.fractions.specs.Fraction.{Fraction, lowest}

-- Euclid's algorithm finds the greatest common divisor
gcd_within-is : (steps a b : ℕ) → b ≤ steps → IsGcd a b (gcd_within steps a b)
unfolding gcd_within
gcd_within-is zero a b h = IsGcd-from_zero a b (omega arith)
gcd_within-is (suc steps) a zero h = IsGcd-from_zero a zero refl
gcd_within-is (suc steps) a (suc b) h =
    IsGcd-from_mod a (suc b) (gcd_within steps (suc b) (a % suc b))
    (gcd_within-is steps (suc b) (a % suc b) (omega arith))

pub gcd-is : (a b : ℕ) → IsGcd a b (gcd a b)
unfolding gcd
gcd-is a b = gcd_within-is b a b (omega arith)

pub gcd-from : (a b g : ℕ) → IsGcd a b g → gcd a b ≡ g
gcd-from a b g h = same_from_IsGcd a b (gcd a b) g (gcd-is a b) h

-- a remainder of multiples is the multiple of the remainder
mod-scaled : (k a b : ℕ) → 0 < k → 0 < b → (k * a) % (k * b) ≡ k * (a % b)
mod-scaled k a b hk hb =
    let whole : a ≡ (a / b) * b + a % b = omega arith in
    let scaled : k * a ≡ k * ((a / b) * b + a % b) = ap (λ n. k * n) whole in
    let parts : k * a ≡ (a / b) * (k * b) + k * (a % b) = omega (arith, scaled) in
    let small : a % b < b = omega arith in
    let below : k * (a % b) < k * b = mul-lt-mul_of_pos_left small hk in
    ap (λ n. n % (k * b)) parts ∙ mod-mul-add (a / b) (k * b) (k * (a % b)) below

gcd_within-scaled : (k steps a b : ℕ) → 0 < k → b ≤ steps → IsGcd (k * a) (k * b) (k * gcd_within steps a b)
unfolding gcd_within
gcd_within-scaled k zero a b hk h =
    IsGcd-from_zero (k * a) (k * b) (let e : b ≡ 0 = omega arith in omega (arith, ap (λ n. k * n) e))
gcd_within-scaled k (suc steps) a zero hk h = IsGcd-from_zero (k * a) (k * zero) (omega arith)
gcd_within-scaled k (suc steps) a (suc b) hk h =
    let more = gcd_within-scaled k steps (suc b) (a % suc b) hk (omega arith) in
    let P : ℕ → Type 0 = λ n. IsGcd (k * suc b) n (k * gcd_within steps (suc b) (a % suc b)) in
    IsGcd-from_mod (k * a) (k * suc b) (k * gcd_within steps (suc b) (a % suc b))
    (subst P (sym (mod-scaled k a (suc b) hk (omega arith))) more)

-- the greatest common divisor of multiples
pub IsGcd-scaled : (k a b g : ℕ) → 0 < k → IsGcd a b g → IsGcd (k * a) (k * b) (k * g)
unfolding gcd
IsGcd-scaled k a b g hk h =
    let P : ℕ → Type 0 = λ n. IsGcd (k * a) (k * b) (k * n) in
    subst P (gcd-from a b g h) (gcd_within-scaled k b a b hk (omega arith))

-- what divides a product and has no divisor in common with one factor divides the other
pub dvd-coprime : (a b c : ℕ) → IsGcd a b 1 → a ∣ b * c → a ∣ c
dvd-coprime a b zero h d = dvd-zero a
dvd-coprime a b (suc c) h d =
    let scaled = IsGcd-scaled (suc c) a b 1 (omega arith) h in
    let P : ℕ → Type 0 = λ n. a ∣ n in
    let product : b * suc c ≡ suc c * b = omega arith in
    let whole : suc c * 1 ≡ suc c = omega arith in
    subst P whole (scaled.2 a (dvd-mul_left a (suc c)) (subst P product d))

-- a number that has no divisor in common with two others has none with their product
pub coprime-mul : (n a b : ℕ) → IsGcd n a 1 → IsGcd n b 1 → IsGcd n (a * b) 1
coprime-mul n a b ha hb = (
  one-dvd n,
  one-dvd (a * b),
  λ d p q.
      let apart : IsGcd d a 1 = (one-dvd d, one-dvd a, λ e r s. ha.2 e (dvd_trans e r p) s) in
      hb.2 d p (dvd-coprime d a b apart q),
)

pub coprime-one : (n : ℕ) → IsGcd n 1 1
coprime-one n = (one-dvd n, one-dvd 1, λ d p q. q)

pub coprime-pow : (n a j : ℕ) → IsGcd n a 1 → IsGcd n (a ^ j) 1
coprime-pow n a zero h = let P : ℕ → Type 0 = λ m. IsGcd n m 1 in subst P (sym (pow-zero a)) (coprime-one n)
coprime-pow n a (suc j) h =
    let P : ℕ → Type 0 = λ m. IsGcd n m 1 in
    subst P (sym (pow-suc a j)) (coprime-mul n (a ^ j) a (coprime-pow n a j h) h)

-- a divisor of a positive number is positive
pub dvd-pos : (d n : ℕ) → 1 ≤ n → d ∣ n → 1 ≤ d
dvd-pos zero n h d = let e : n ≡ zero = eq-zero_of_zero-dvd d in absurd (omega arith)
dvd-pos (suc d) n h p = omega arith

pub gcd-pos : (a b : ℕ) → 1 ≤ b → 1 ≤ gcd a b
gcd-pos a b h = dvd-pos (gcd a b) b h (gcd-is a b).1

-- what is left of two numbers over their greatest common divisor has no divisor in common
pub coprime-div : (a b : ℕ) → 1 ≤ b → IsGcd (a / gcd a b) (b / gcd a b) 1
coprime-div a b h =
    let g = gcd a b in
    let pos : 0 < g = gcd-pos a b h in
    let is = gcd-is a b in
    let first : g * (a / g) ≡ a = mul-div_cancel' g is.0 in
    let second : g * (b / g) ≡ b = mul-div_cancel' g is.1 in
    let left = IsGcd-scaled g (a / g) (b / g) (gcd (a / g) (b / g)) pos (gcd-is (a / g) (b / g)) in
    let P : ℕ → Type 0 = λ n. IsGcd n (g * (b / g)) (g * gcd (a / g) (b / g)) in
    let Q : ℕ → Type 0 = λ n. IsGcd a n (g * gcd (a / g) (b / g)) in
    let both : IsGcd a b (g * gcd (a / g) (b / g)) = subst Q second (subst P first left) in
    let same : g * gcd (a / g) (b / g) ≡ g = same_from_IsGcd a b (g * gcd (a / g) (b / g)) g both is in
    let one : gcd (a / g) (b / g) ≡ 1 = one-from g (gcd (a / g) (b / g)) pos same in
    let R : ℕ → Type 0 = λ n. IsGcd (a / g) (b / g) n in
    subst R one (gcd-is (a / g) (b / g))
  where
    one-from : (g h : ℕ) → 0 < g → g * h ≡ g → h ≡ 1
    one-from g h pos e = sym (mul-div_cancel_left h pos) ∙ ap (λ n. n / g) e ∙ div_self pos

-- two fractions of one value in lowest terms are one
pub lowest-same : (a b c d : ℕ) → 1 ≤ b → 1 ≤ d → IsGcd a b 1 → IsGcd c d 1 → a * d ≡ c * b → (a ≡ c) × (b ≡ d)
lowest-same a b c d hb hd left right same =
    let P : ℕ → Type 0 = λ n. b ∣ n in
    let Q : ℕ → Type 0 = λ n. d ∣ n in
    let forth : b ∣ d = dvd-coprime b a d (IsGcd-swap a b 1 left) (subst P (sym same) (dvd-mul_left b c)) in
    let back : d ∣ b = dvd-coprime d c b (IsGcd-swap c d 1 right) (subst Q same (dvd-mul_left d a)) in
    let dens : b ≡ d = dvd_antisymm forth back in
    let nums : a * b ≡ c * b = ap (λ n. a * n) dens ∙ same in
    (sym (mul-div_cancel a hb) ∙ ap (λ n. n / b) nums ∙ mul-div_cancel c hb, dens)

-- reduced, a fraction has the value that it had
pub lowest-value : (f : Fraction) → 1 ≤ f.den → (lowest f).num * f.den ≡ f.num * (lowest f).den
lowest-value f h =
    let g = gcd f.num f.den in
    let is = gcd-is f.num f.den in
    let first : g * (f.num / g) ≡ f.num = mul-div_cancel' g is.0 in
    let second : g * (f.den / g) ≡ f.den = mul-div_cancel' g is.1 in
    ap (λ n. (f.num / g) * n) (sym second) ∙ swapped (f.num / g) g (f.den / g) ∙ ap (λ n. n * (f.den / g)) first
  where
    swapped : (x y z : ℕ) → x * (y * z) ≡ y * x * z
    swapped x y z = omega arith

pub lowest-pos : (f : Fraction) → 1 ≤ f.den → 1 ≤ (lowest f).den
lowest-pos f h =
    let is = gcd-is f.num f.den in
    let P : ℕ → Type 0 = λ n. 1 ≤ n in
    dvd-pos (f.den / gcd f.num f.den) f.den h
    (let Q : ℕ → Type 0 = λ n. f.den / gcd f.num f.den ∣ n in
    subst Q (mul-div_cancel' (gcd f.num f.den) is.1) (dvd-mul_left (f.den / gcd f.num f.den) (gcd f.num f.den)))

-- fractions that have the value of a third have one value
pub crossed : (a b c d p q : ℕ) → 1 ≤ b → c * b ≡ a * d → p * b ≡ a * q → c * q ≡ p * d
crossed a b c d p q hb first second =
    let left : c * q * b ≡ a * d * q = mul_right_comm c q b ∙ ap (λ n. n * q) first in
    let right : p * d * b ≡ a * q * d = mul_right_comm p d b ∙ ap (λ n. n * d) second in
    sym (mul-div_cancel (c * q) hb) ∙ ap (λ n. n / b) (left ∙ mul_right_comm a d q ∙ sym right)
    ∙ mul-div_cancel (p * d) hb

-- a fraction of the same value in lowest terms is the reduced one
pub lowest-is : (f g : Fraction) → 1 ≤ f.den → 1 ≤ g.den → IsGcd g.num g.den 1
    → g.num * f.den ≡ f.num * g.den → lowest f ≡ g
lowest-is f g hf hg is same =
    let low = lowest f in
    let nums = lowest-same low.num low.den g.num g.den (lowest-pos f hf) hg (coprime-div f.num f.den hf) is
    (crossed f.num f.den low.num low.den g.num g.den hf (lowest-value f hf) same) in
    let fraction : ℕ → ℕ → Fraction = λ n d. record { num = n; den = d } in
    ap (λ n. fraction n low.den) nums.0 ∙ ap (λ d. fraction g.num d) nums.1

-- fractions of one value are one in lowest terms
pub lowest-like : (f g : Fraction) → 1 ≤ f.den → 1 ≤ g.den → f.num * g.den ≡ g.num * f.den → lowest f ≡ lowest g
lowest-like f g hf hg same =
    lowest-is f (lowest g) hf (lowest-pos g hg) (coprime-div g.num g.den hg)
    (crossed g.num g.den (lowest g).num (lowest g).den f.num f.den hg (lowest-value g hg) same)

-- the least common multiple
pub lcm-left : (a b : ℕ) → 1 ≤ b → a ∣ lcm a b
unfolding lcm
lcm-left a b h =
    let g = gcd a b in
    let is = gcd-is a b in
    let first : a / g * g ≡ a = div-mul_cancel g is.0 in
    let second : g * (b / g) ≡ b = mul-div_cancel' g is.1 in
    let P : ℕ → Type 0 = λ n. a ∣ n in
    let whole : a * (b / g) ≡ a / g * b =
    ap (λ n. n * (b / g)) (sym first) ∙ mul_assoc (a / g) g (b / g) ∙ ap (λ n. (a / g) * n) second in
    subst P whole (dvd-mul_right a (b / g))

pub lcm-right : (a b : ℕ) → b ∣ lcm a b
unfolding lcm
lcm-right a b = dvd-mul_left b (a / gcd a b)

pub lcm-least : (a b m : ℕ) → 1 ≤ b → a ∣ m → b ∣ m → lcm a b ∣ m
unfolding lcm
lcm-least a b zero h p q = dvd-zero (a / gcd a b * b)
lcm-least a b (suc m) h p q =
    let g = gcd a b in
    let pos : 0 < g = gcd-pos a b h in
    let is = gcd-is a b in
    let scaled = IsGcd-scaled (suc m) a b g (omega arith) is in
    let P : ℕ → Type 0 = λ n. a * b ∣ n in
    let first : a * b ∣ suc m * a = subst P (mul_comm a (suc m)) (mul-dvd-mul_left b a q) in
    let second : a * b ∣ suc m * b = mul-dvd-mul_right a p b in
    let both : a * b ∣ suc m * g = scaled.2 (a * b) first second in
    let Q : ℕ → Type 0 = λ n. n ∣ suc m * g in
    let whole : a * b ≡ a / g * b * g = ap (λ n. n * b) (sym (div-mul_cancel g is.0)) ∙ mul_right_comm (a / g) g b in
    dvd_of_mul-dvd-mul_right (a / g * b) pos (subst Q whole both)

pub lcm-pos : (a b : ℕ) → 1 ≤ a → 1 ≤ b → 1 ≤ lcm a b
unfolding lcm
lcm-pos a b ha hb =
    let is = gcd-is a b in
    let P : ℕ → Type 0 = λ n. a / gcd a b ∣ n in
    let some : 1 ≤ a / gcd a b =
    dvd-pos (a / gcd a b) a ha (subst P (mul-div_cancel' (gcd a b) is.0) (dvd-mul_left (a / gcd a b) (gcd a b))) in
    pos-mul (a / gcd a b) b some hb
  where
    pos-mul : (x y : ℕ) → 1 ≤ x → 1 ≤ y → 1 ≤ x * y
    pos-mul x y hx hy = omega (arith, mul-le-mul_left x hy)

-- one step of Euclid's algorithm
pub gcd_step : (a b : ℕ) → gcd a b ≡ gcd b (a % b)
gcd_step a b = gcd-from a b (gcd b (a % b)) (IsGcd-from_mod a b (gcd b (a % b)) (gcd-is b (a % b)))

pub gcd_zero : (a : ℕ) → gcd a 0 ≡ a
gcd_zero a = gcd-from a 0 a (IsGcd-from_zero a 0 refl)

pub lcm_by : (a b : ℕ) → lcm a b ≡ a / gcd a b * b
unfolding lcm
lcm_by a b = refl

-- of a number and its divisor
pub lcm_above : (a b : ℕ) → 1 ≤ b → a % b ≡ 0 → lcm a b ≡ a
lcm_above a b h e =
    let divides : b ∣ a = dvd_of_mod-eq-zero b e in
    let same : gcd a b ≡ b = gcd-from a b b (divides, dvd_refl b, λ d p q. q) in
    lcm_by a b ∙ ap (λ n. a / n * b) same ∙ div-mul_cancel b divides

-- of a divisor and its number
pub lcm_below : (a b : ℕ) → 1 ≤ a → b % a ≡ 0 → lcm a b ≡ b
lcm_below a b h e =
    let divides : a ∣ b = dvd_of_mod-eq-zero a e in
    let same : gcd a b ≡ a = gcd-from a b a (dvd_refl a, divides, λ d p q. p) in
    lcm_by a b ∙ ap (λ n. a / n * b) same ∙ ap (λ n. n * b) (div_self h) ∙ one-mul b

-- a product beside a bound, by a division
pub product_above : (bound a b : ℕ) → 1 ≤ b → bound / b < a → bound < a * b
product_above bound a b h less = (div-lt_iff_lt-mul h).0 less

pub product_below : (bound a b : ℕ) → a ≤ bound / b → a * b ≤ bound
product_below bound a b le = omega (arith, mul-le-mul_right b le, div-mul-le_self bound b)

-- multiples of numbers of 64 bits, and of greater ones
pub ruleset narrow_multiples = (lcm_above, lcm_below, lcm_by, gcd-pos)

pub ruleset wide_multiples = (lcm_by, gcd-pos, product_above, product_below)
