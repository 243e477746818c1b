-- The last digits of a number, written one after another, and read back.
use Rattle.std.proofs.Common.{◌≡◌, ℕ, zero, suc, ◌+◌, ◌-◌, ◌*◌, ◌/◌, ◌%◌, ◌^◌, ◌<◌, ◌≤◌, List, [], ◌∷◌, ◌++◌, length}
use Rattle.std.proofs.Common.{drop, set, append_assoc, add-one, arith, refl}
use Rattle.std.proofs.Math.Nat.{pow-suc}
use Rattle.std.proofs.lemmas.List.{drop-set}
use Rattle.game_model.specs.Limits.{unit}
use Rattle.plan_text.specs.Fixed.{last_digits, fixed, unit_digits}

-- one more digit is written
pub digit_more : (p n : ℕ) (xs : List ℕ) → 0 < p → p ≤ length xs
    → last_digits (p - 1) (n / 10) ++ drop (p - 1) (set xs (p - 1) (48 + n % 10)) ≡ last_digits p n ++ drop p xs
unfolding last_digits
digit_more zero n xs some within = absurd (omega arith)
digit_more (suc p) n xs some within =
    let before : suc p - 1 ≡ p = omega arith in
    let here : p < length xs = omega arith in
    rw (before, drop-set xs p (48 + n % 10) here, append_assoc, add-one) refl

-- all digits are written
pub nothing_left : (p n : ℕ) (xs ys : List ℕ) → p ≡ 0 → last_digits p n ++ drop p xs ≡ ys → xs ≡ ys
unfolding last_digits
nothing_left zero n xs ys none written = written
nothing_left (suc p) n xs ys none written = absurd (omega arith)

-- lists with one more element at the end
snoc-parts : (xs ys : List ℕ) (a b : ℕ) → xs ++ a ∷ [] ≡ ys ++ b ∷ [] → (xs ≡ ys) × (a ≡ b)
snoc-parts [] [] a b same = (refl, cc)
snoc-parts [] (y ∷ []) a b same = absurd (cc)
snoc-parts [] (y ∷ z ∷ ys) a b same = absurd (cc)
snoc-parts (x ∷ []) [] a b same = absurd (cc)
snoc-parts (x ∷ z ∷ xs) [] a b same = absurd (cc)
snoc-parts (x ∷ xs) (y ∷ ys) a b same =
    let rest : xs ++ a ∷ [] ≡ ys ++ b ∷ [] = cc in
    let parts = snoc-parts xs ys a b rest in
    let first : x ≡ y = cc in
    let others : xs ≡ ys = parts.0 in
    (cc, parts.1)

-- numbers with the same last k digits are the same, where they have no more
pub last_digits-one : (k m n : ℕ) → m < 10 ^ k → n < 10 ^ k → last_digits k m ≡ last_digits k n → m ≡ n
unfolding last_digits
last_digits-one zero m n small_m small_n same = omega (arith, small_m, small_n)
last_digits-one (suc k) m n small_m small_n same =
    let parts = snoc-parts (last_digits k (m / 10)) (last_digits k (n / 10)) (48 + m % 10) (48 + n % 10) same in
    let power : 10 ^ suc k ≡ 10 ^ k * 10 = pow-suc 10 k in
    let front : m / 10 ≡ n / 10 =
    last_digits-one k (m / 10) (n / 10) (omega (arith, power)) (omega (arith, power)) parts.0 in
    let last : 48 + m % 10 ≡ 48 + n % 10 = parts.1 in
    omega (arith, front, last)

-- a value of at most one has one text
pub fixed-one : (u v : ℕ) → u ≤ unit → v ≤ unit → fixed u ≡ fixed v → u ≡ v
fixed-one u v small_u small_v same =
    let whole : 48 + u / unit ≡ 48 + v / unit = cc in
    let digits : last_digits unit_digits (u % unit) ≡ last_digits unit_digits (v % unit) = cc in
    let rest : u % unit ≡ v % unit =
    last_digits-one unit_digits (u % unit) (v % unit) (omega arith) (omega arith) digits in
    omega (arith, whole, rest)
