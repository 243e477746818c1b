-- The digits of a number, and which bytes they are not.
use Rattle.std.proofs.Common.{◌≡◌, ◌∙◌, ◌≤◌, ◌<◌, ◌+◌, ◌*◌, ◌/◌, ◌%◌, ◌^◌, ℕ, zero, suc, List, [], ◌∷◌, ◌++◌, ap, arith}
use Rattle.std.specs.Prelude.{decimal}
use Rattle.std.proofs.Math.Nat.{pow-suc, pow-le-pow_right, one-le-pow}
use Rattle.std.proofs.lemmas.Fmt.{decimal_step, decimal_digit, decimal_by_steps}
use Rattle.plan_text.specs.Fixed.{last_digits, unit_digits}

-- 1. The digits of a part stand behind the 1 of a number that has one digit more.

pub power-small : (places : ℕ) → places ≤ unit_digits → 10 ^ places ≤ 10 ^ 15
power-small places few = pow-le-pow_right {n = 10} (omega arith) {i = places} {j = 15} few

decimal-with_one : (places n : ℕ) → places ≤ unit_digits → n < 10 ^ places
    → decimal (10 ^ places + n) ≡ 49 ∷ last_digits places n
unfolding last_digits
decimal-with_one zero n few small =
    let one : 10 ^ 0 + n ≡ 1 = omega (arith, small) in
    ap decimal one ∙ decimal_digit 1 (omega arith)
decimal-with_one (suc k) n few small =
    let power : 10 ^ suc k ≡ 10 ^ k * 10 = pow-suc 10 k in
    let some : 1 ≤ 10 ^ k = one-le-pow k 10 (omega arith) in
    let fits : 10 ^ suc k ≤ 10 ^ 15 = power-small (suc k) few in
    let front : (10 ^ suc k + n) / 10 ≡ 10 ^ k + n / 10 = omega (arith, power) in
    let end : (10 ^ suc k + n) % 10 ≡ n % 10 = omega (arith, power) in
    let before = decimal-with_one k (n / 10) (omega arith) (omega (arith, power)) in
    decimal_step (10 ^ suc k + n) (omega (arith, power, some)) (omega (arith, fits, small))
    ∙ ap (λ m. decimal m ++ (48 + (10 ^ suc k + n) % 10) ∷ []) front
    ∙ ap (λ m. decimal (10 ^ k + n / 10) ++ (48 + m) ∷ []) end
    ∙ ap (λ ds. ds ++ (48 + n % 10) ∷ []) before

pub behind_one : (places n one : ℕ) (digits : List ℕ) → places ≤ unit_digits → n < 10 ^ places → one ≡ 10 ^ places
    → digits ≡ decimal (one + n) → digits ≡ 49 ∷ last_digits places n
behind_one places n one digits few small power written =
    written ∙ ap (λ m. decimal (m + n)) power ∙ decimal-with_one places n few small

-- 2. A number is written in digits, and has at least one of them.

abbrev pub AreDigits : List ℕ → Type 0
AreDigits [] = Unit {0}
AreDigits (b ∷ bytes) = (48 ≤ b) × (b ≤ 57) × AreDigits bytes

AreDigits-append : (xs ys : List ℕ) → AreDigits xs → AreDigits ys → AreDigits (xs ++ ys)
AreDigits-append [] ys front back = back
AreDigits-append (b ∷ xs) ys front back = (front.0, front.1, AreDigits-append xs ys front.2 back)

pub decimal-digits : (n : ℕ) → n < 2 ^ 64 → AreDigits (decimal n)
decimal-digits n small = decimal_by_steps (λ m digits. AreDigits digits) (λ m h. (omega arith, omega arith, tt))
    (λ m digits h before. AreDigits-append digits ((48 + m % 10) ∷ []) before (omega arith, omega arith, tt)) n small

pub last_digits-digits : (k n : ℕ) → AreDigits (last_digits k n)
unfolding last_digits
last_digits-digits zero n = tt
last_digits-digits (suc k) n =
    AreDigits-append (last_digits k (n / 10)) ((48 + n % 10) ∷ []) (last_digits-digits k (n / 10))
    (omega arith, omega arith, tt)
