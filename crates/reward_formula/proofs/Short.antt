-- The numerator of a reward that a text spells has no more digits than may be read.
use Rattle.std.proofs.Common.{◌≡◌, ◌∙◌, ◌⊎◌, ◌+◌, ◌-◌, ◌*◌, ◌^◌, ◌<◌, ◌≤◌, inl, inr, ℕ, List, [], ◌∷◌, ◌++◌}
use Rattle.std.proofs.Common.{length, true, false, cond, ap, sym, arith, nat_lt}
use Rattle.std.proofs.lemmas.Bool.{cases_Bool, and_parts, ltb-true, ltb-false}
use Rattle.std.proofs.Math.Nat.{div-le_self, mul-le-mul_right, pow-suc}
use Rattle.std.proofs.lemmas.List.{length-append}
use Rattle.text_lines.specs.Text.{is_digit, all_digits, value_onto}
use Rattle.numerals.specs.Limits.{most_digits}
use Rattle.numerals.specs.Spelling.{Exponent, Spelling, Decimal, Quotient, SpellsBack, Spells, is_long}
use Rattle.numerals.proofs.Spelled.{digit-most, digits_room}
use Rattle.fractions.specs.Divisors.{gcd}
use Rattle.fractions.specs.Fraction.{Fraction, lowest}
use Rattle.fractions.specs.Number.{value_of}
use Rattle.fractions.proofs.Euclid.{lowest-is}
use Rattle.fractions.proofs.Terms.{lowest-shifted, lowest-whole}
use Rattle.rewards_reader.specs.Amounts.{IsAmount, DenotesAmount}
use Rattle.rewards_reader.proofs.Amounts.{short-decimal, short-quotient}
use Rattle.rpatl_syntax.proofs.Numerals.{digits_append}

-- digits are below the power of ten of their number
value_below : (v : ℕ) (digits : List ℕ) → all_digits digits ≡ true
    → value_onto v digits + 1 ≤ (v + 1) * 10 ^ length digits
value_below v [] a = omega arith
value_below v (b ∷ digits) a =
    let parts = and_parts (is_digit b) (all_digits digits) a in
    let most = digit-most b parts.0 in
    let rest = value_below (10 * v + (b - 48)) digits parts.1 in
    let more : (10 * v + (b - 48) + 1) * 10 ^ length digits ≤ ((v + 1) * 10) * 10 ^ length digits =
    mul-le-mul_right (10 ^ length digits) (omega (arith, most)) in
    let power : 10 ^ length (b ∷ digits) ≡ 10 ^ length digits * 10 = pow-suc 10 (length digits) in
    omega (arith, rest, more, ap (λ n. (v + 1) * n) power)

few_below : (digits : List ℕ) → all_digits digits ≡ true → length digits ≤ most_digits
    → value_onto 0 digits < 10 ^ most_digits
few_below digits a h = omega (arith, value_below 0 digits a, digits_room (length digits) h)

le_or_above : (a b : ℕ) → (a ≤ b) ⊎ (b ≤ a)
le_or_above a b = elim (cases_Bool (nat_lt b a)) [
  | inl t ↦ inr (omega (arith, ltb-true b a t))
  | inr f ↦ inl (ltb-false b a f)
]

back_digits : (text back : List ℕ) → SpellsBack text back → all_digits back ≡ true
back_digits text back s = elim s [ inl e ↦ ap all_digits e.1 | inr d ↦ d.1 ]

-- digits times a power of ten over a power of ten, in lowest terms
shifted_few : (digits up down : ℕ) (x : Fraction) → digits < 10 ^ most_digits → IsAmount x
    → lowest (record { num = digits * 10 ^ up; den = 10 ^ down }) ≡ x → x.num < 10 ^ most_digits
shifted_few digits up down x small is same =
    elim (le_or_above up down) [
      | inl h ↦
          let e = ap (λ (f : Fraction). f.num) (sym (lowest-shifted digits up down h) ∙ same) in
          omega (arith, small, e, div-le_self digits (gcd digits (10 ^ (down - up))))
      | inr h ↦
          let e = ap (λ (f : Fraction). f.den) (sym (lowest-whole digits up down h) ∙ same) in
          omega (arith, is.small, e)
    ]

decimal_few : (text front back : List ℕ) (e : Exponent) (x : Fraction) → Spells text (Decimal front back e)
    → is_long (Decimal front back e) ≡ false → IsAmount x → lowest (value_of (Decimal front back e)) ≡ x
    → x.num < 10 ^ most_digits
decimal_few text front back e x d short is same =
    let few = short-decimal front back e short in
    let all = digits_append front back d.digits.1 (back_digits d.middle back d.point) in
    shifted_few (value_onto 0 (front ++ back)) (cond e.below 0 (value_onto 0 e.digits))
    (length back + cond e.below (value_onto 0 e.digits) 0) x
    (few_below (front ++ back) all (omega (arith, length-append front back, few.few))) is same

quotient_few : (text above below : List ℕ) (x : Fraction) → Spells text (Quotient above below)
    → is_long (Quotient above below) ≡ false → lowest (value_of (Quotient above below)) ≡ x → x.num < 10 ^ most_digits
quotient_few text above below x d short same =
    let few = short-quotient above below short in
    let e = ap (λ (f : Fraction). f.num) same in
    omega (
      arith,
      few_below above d.numerator.1 few.0,
      e,
      div-le_self (value_onto 0 above) (gcd (value_onto 0 above) (value_onto 0 below)),
    )

pub amount_few : (text : List ℕ) (x : Fraction) → DenotesAmount text x → x.num < 10 ^ most_digits
amount_few text x d =
    let same = lowest-is (value_of d.spelling) x d.divided d.amount.positive d.amount.lowest d.value in
    by_spelling d.spelling d.spelled d.short same
  where
    by_spelling : (s : Spelling) → Spells text s → is_long s ≡ false → lowest (value_of s) ≡ x
        → x.num < 10 ^ most_digits
    by_spelling (Decimal front back e) spelled short same =
        decimal_few text front back e x spelled short d.amount same
    by_spelling (Quotient above below) spelled short same = quotient_few text above below x spelled short same
