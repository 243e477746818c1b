-- A value is read in one way: its whole part ends at the point, and its text at the space behind it.
use Rattle.std.proofs.Common.{◌≡◌, ◌≢◌, ◌∙◌, ◌≤◌, ◌<◌, ◌+◌, ◌*◌, ◌/◌, ◌%◌, ◌^◌, ℕ, zero, suc, List, [], ◌∷◌, ◌++◌}
use Rattle.std.proofs.Common.{length, Option, Some, None, refl, sym, ap, arith, append-nil, lit<}
use Rattle.std.specs.Prelude.{codes, decimal}
use Rattle.std.proofs.Math.Nat.{one-le-pow}
use Rattle.std.proofs.lemmas.Nat.{div-add-mod', div_below, mod_below}
use Rattle.std.proofs.lemmas.Fmt.{decimal_injective, decimal_nonempty}
use Rattle.game_model.specs.Limits.{unit}
use Rattle.plan_text.specs.Fixed.{last_digits}
use Rattle.plan_text.proofs.Digits.{last_digits-one}
use Rattle.reward_values.specs.Values.{IsValue, part_text, number_text, value_text}
use Rattle.reward_values.proofs.Digits.{AreDigits, decimal-digits, last_digits-digits}

-- 1. A text ends at the first byte that is not in it.

abbrev HasNo : ℕ → List ℕ → Type 0
HasNo c [] = Unit {0}
HasNo c (b ∷ bytes) = (b ≢ c) × HasNo c bytes

HasNo-append : (c : ℕ) (xs ys : List ℕ) → HasNo c xs → HasNo c ys → HasNo c (xs ++ ys)
HasNo-append c [] ys front back = back
HasNo-append c (b ∷ xs) ys front back = (front.0, HasNo-append c xs ys front.1 back)

HasNo-digits : (c : ℕ) (bytes : List ℕ) → c < 48 → AreDigits bytes → HasNo c bytes
HasNo-digits c [] below digits = tt
HasNo-digits c (b ∷ bytes) below digits =
    ((λ same. omega (arith, below, digits.0, same)), HasNo-digits c bytes below digits.2)

up_to_byte : (c : ℕ) (xs ys r s : List ℕ) → HasNo c xs → HasNo c ys → xs ++ c ∷ r ≡ ys ++ c ∷ s → (xs ≡ ys) × (r ≡ s)
up_to_byte c [] [] r s hx hy e = (refl, cc)
up_to_byte c [] (y ∷ ys) r s hx hy e = let is : y ≡ c = cc in absurd (hy.0 is)
up_to_byte c (x ∷ xs) [] r s hx hy e = let is : x ≡ c = cc in absurd (hx.0 is)
up_to_byte c (x ∷ xs) (y ∷ ys) r s hx hy e =
    let first : x ≡ y = cc in
    let behind : xs ++ c ∷ r ≡ ys ++ c ∷ s = cc in
    let parts = up_to_byte c xs ys r s hx.1 hy.1 behind in
    let others : xs ≡ ys = parts.0 in
    (cc, parts.1)

-- 2. Numbers of the same places.

pub quotient-fits : (n p : ℕ) → 1 ≤ p → n ≤ unit → n / p < 2 ^ 64
quotient-fits n p some small = div_below n p (2 ^ 64) some (omega (arith, some, small))

-- a number is its whole part and what stands behind it
from_parts : (u v p : ℕ) → u / p ≡ v / p → u % p ≡ v % p → u ≡ v
from_parts u v p whole part =
    sym (div-add-mod' u p) ∙ ap (λ w. w * p + u % p) whole ∙ ap (λ m. v / p * p + m) part ∙ div-add-mod' v p

number-one : (places u v : ℕ) → u ≤ unit → v ≤ unit → number_text places u ≡ number_text places v → u ≡ v
number-one zero u v small_u small_v same =
    let whole : decimal (u / 1) ≡ decimal (v / 1) =
    sym (append-nil (decimal (u / 1))) ∙ same ∙ append-nil (decimal (v / 1)) in
    omega (arith, decimal_injective (u / 1) (v / 1) (omega (arith, small_u)) (omega (arith, small_v)) whole)
number-one (suc k) u v small_u small_v same =
    let p : ℕ = 10 ^ suc k in
    let some : 1 ≤ p = one-le-pow (suc k) 10 (omega arith) in
    let fits_u = quotient-fits u p some small_u in
    let fits_v = quotient-fits v p some small_v in
    let parts = up_to_byte 46 (decimal (u / p)) (decimal (v / p)) _ _
    (HasNo-digits 46 (decimal (u / p)) (omega arith) (decimal-digits (u / p) fits_u))
    (HasNo-digits 46 (decimal (v / p)) (omega arith) (decimal-digits (v / p) fits_v)) same in
    from_parts u v p (decimal_injective (u / p) (v / p) fits_u fits_v parts.0)
    (last_digits-one (suc k) (u % p) (v % p) (mod_below u p some) (mod_below v p some) parts.1)

-- a number begins with a digit, and so it is not the word for an infinite value
pub number-finite : (places u : ℕ) (rest : List ℕ) → u ≤ unit → number_text places u ≢ 105 ∷ rest
number-finite places u rest small same =
    let some : 1 ≤ 10 ^ places = one-le-pow places 10 (omega arith) in
    let fits = quotient-fits u (10 ^ places) some small in
    by (decimal (u / 10 ^ places)) (decimal_nonempty (u / 10 ^ places) fits)
    (decimal-digits (u / 10 ^ places) fits) same
  where
    by : (digits : List ℕ) → 0 < length digits → AreDigits digits
        → digits ++ part_text places (u % 10 ^ places) ≡ 105 ∷ rest → ⊥
    by [] some are same = omega (arith, some)
    by (b ∷ digits) some are same = let is : b ≡ 105 = cc in omega (arith, are.1, is)

-- 3. Values of the same places, alone and with a space behind them.

pub value-one : (places : ℕ) (a b : Option ℕ) → IsValue a → IsValue b → value_text places a ≡ value_text places b
    → a ≡ b
value-one places (Some u) (Some v) small_a small_b same = ap Some (number-one places u v small_a small_b same)
value-one places (Some u) None small_a small_b same = absurd (number-finite places u (codes "nfinite") small_a same)
value-one places None (Some v) small_a small_b same =
    absurd (number-finite places v (codes "nfinite") small_b (sym same))
value-one places None None small_a small_b same = refl

part-no_space : (places n : ℕ) → HasNo 32 (part_text places n)
part-no_space zero n = tt
part-no_space (suc k) n = (
  (λ same. omega (arith, same)),
  HasNo-digits 32 (last_digits (suc k) n) (omega arith) (last_digits-digits (suc k) n),
)

value-no_space : (places : ℕ) (a : Option ℕ) → IsValue a → HasNo 32 (value_text places a)
value-no_space places (Some u) small =
    let some : 1 ≤ 10 ^ places = one-le-pow places 10 (omega arith) in
    let fits = quotient-fits u (10 ^ places) some small in
    HasNo-append 32 (decimal (u / 10 ^ places)) (part_text places (u % 10 ^ places))
    (HasNo-digits 32 (decimal (u / 10 ^ places)) (omega arith) (decimal-digits (u / 10 ^ places) fits))
    (part-no_space places (u % 10 ^ places))
value-no_space places None small =
    let other : (b : ℕ) → 32 < b → b ≢ 32 = λ b above is. omega (arith, above, is) in (
      other 105 (lit< tt),
      (
        other 110 (lit< tt),
        (
          other 102 (lit< tt),
          (
            other 105 (lit< tt),
            (
              other 110 (lit< tt),
              (other 105 (lit< tt), (other 116 (lit< tt), (other 101 (lit< tt), tt))),
            ),
          ),
        ),
      ),
    )

pub value-one_before : (places : ℕ) (a b : Option ℕ) (r s : List ℕ) → IsValue a → IsValue b
    → value_text places a ++ 32 ∷ r ≡ value_text places b ++ 32 ∷ s → (a ≡ b) × (r ≡ s)
value-one_before places a b r s small_a small_b same =
    let parts = up_to_byte 32 (value_text places a) (value_text places b) r s
    (value-no_space places a small_a) (value-no_space places b small_b) same in
    (value-one places a b small_a small_b parts.0, parts.1)
