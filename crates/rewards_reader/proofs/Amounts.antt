-- What is said of a number and of a reward.
use Rattle.std.proofs.Common.{◌≡◌, ◌≢◌, ◌∙◌, ◌≤◌, ◌<◌, ◌+◌, ◌-◌, ◌*◌, ◌^◌, inl, inr, ℕ, suc, zero, List, refl, ap}
use Rattle.std.proofs.Common.{sym, true, false, cond, Option, Some, None, Result, Ok, Err, length, arith}
use Rattle.std.specs.Prelude.{◌==◌, ◌||◌, nat_lt}
use Rattle.std.proofs.lemmas.Bool.{cases_Bool, lt-ltb, le-ltb, ltb-false, ltb-true, or_parts}
use Rattle.std.proofs.Math.Nat.{mul-le-mul_left, mul-le-mul_right}
use Rattle.text_lines.specs.Text.{value_onto}
use Rattle.fractions.specs.declared.number.NumberFault.{NumberFault}
use Rattle.fractions.specs.declared.number.NumberFault.TheVariants as number
use Rattle.numerals.specs.Limits.{most_digits, most_exponent, most_exponent_digits}
use Rattle.fractions.specs.Limits.{finest, most_value}
use Rattle.fractions.specs.Fraction.{Fraction, lowest}
use Rattle.numerals.specs.Spelling.{Exponent, Spelling, Decimal, Quotient, is_long}
use Rattle.fractions.specs.Number.{value_of, in_range, fraction_said}
use Rattle.numerals.specs.Spelling.{spelling_of}
use Rattle.fractions.specs.Number.{spelling_said, number_said}
use Rattle.fractions.proofs.Euclid.{lowest-value}
use Rattle.numerals.proofs.Grammar.{chosen}
use Rattle.fractions.proofs.Powers.{pow-pos, pow-rises}
use Rattle.numerals.proofs.Spelled.{value_append}
use Rattle.fractions.proofs.Terms.{lowest-shifted, lowest-whole, said-above_zero}
use Rattle.fractions.proofs.Said.{some-from, some-test}
use Rattle.rewards_reader.specs.declared.fault.RewardsCause.TheVariants.{Number, TooLarge}
use Rattle.rewards_reader.specs.Limits.{most_reward}
use Rattle.rewards_reader.specs.Amounts.{amount_within, amount_of, spelled_amount, amount_said}

-- 1. A number from 0 to 2 is a reward, and the other faults of a number are those of a reward.

pub within-again : (f : Fraction) → f.den ≤ finest → f.num ≤ most_reward * f.den → amount_within f ≡ Ok f
within-again f fine small = rw (le-ltb finest f.den fine) (rw (le-ltb (most_reward * f.den) f.num small) refl)

range-amount : (g f : Fraction) → in_range g ≡ Ok f → amount_within g ≡ Ok f
range-amount g f is =
    elim (chosen (nat_lt finest g.den) (Err number.TooFine)
    (cond (nat_lt (most_value * g.den) g.num) (Err number.TooLarge) (Ok g)) (Ok f) is) [
      | inl t ↦ cc t.1
      | inr t ↦ elim (chosen (nat_lt (most_value * g.den) g.num) (Err number.TooLarge) (Ok g) (Ok f) t.1) [
        | inl u ↦ cc u.1
        | inr u ↦ within-again g (ltb-false finest g.den t.0) (omega (arith, ltb-false (most_value * g.den) g.num u.0))
            ∙ ap (λ h. Ok h) (same-number g f u.1)
      ]
    ]
  where
    same-number : (d e : Fraction) → ◌≡◌ {A = Result Fraction NumberFault} (Ok d) (Ok e) → d ≡ e
    same-number d e same = cc

fraction-amount : (v f : Fraction) → fraction_said v ≡ Ok f → amount_of v ≡ Ok f
fraction-amount v f is =
    elim (chosen (v.den == 0) (Err number.ZeroDenominator) (in_range (lowest v)) (Ok f) is) [
      | inl t ↦ cc t.1
      | inr t ↦ ap (λ b. cond b (Err (Number number.ZeroDenominator)) (amount_within (lowest v))) t.0
          ∙ range-amount (lowest v) f t.1
    ]

spelled-amount : (o : Option Spelling) (f : Fraction) → spelling_said o ≡ Ok f → spelled_amount o ≡ Ok f
spelled-amount None f is = cc
spelled-amount (Some s) f is =
    elim (chosen (is_long s) (Err number.TooManyDigits) (fraction_said (value_of s)) (Ok f) is) [
      | inl t ↦ cc t.1
      | inr t ↦ ap (λ b. cond b (Err (Number number.TooManyDigits)) (amount_of (value_of s))) t.0
          ∙ fraction-amount (value_of s) f t.1
    ]

pub number-amount : (text : List ℕ) (f : Fraction) → number_said text ≡ Ok f → amount_said text ≡ Ok f
number-amount text f is = spelled-amount (spelling_of text) f is

same-fault : (d e : NumberFault) → ◌≡◌ {A = Result Fraction NumberFault} (Err d) (Err e) → d ≡ e
same-fault d e is = cc

range-fault : (g : Fraction) (e : NumberFault) → e ≢ number.TooLarge → in_range g ≡ Err e
    → amount_within g ≡ Err (Number e)
range-fault g e other is =
    elim (chosen (nat_lt finest g.den) (Err number.TooFine)
    (cond (nat_lt (most_value * g.den) g.num) (Err number.TooLarge) (Ok g)) (Err e) is) [
      | inl t ↦ ap (λ b. cond b (Err (Number number.TooFine))
          (cond (nat_lt (most_reward * g.den) g.num) (Err TooLarge) (Ok g))) t.0
          ∙ ap (λ d. Err (Number d)) (same-fault _ _ t.1)
      | inr t ↦ elim (chosen (nat_lt (most_value * g.den) g.num) (Err number.TooLarge) (Ok g) (Err e) t.1) [
        | inl u ↦ absurd (other (sym (same-fault _ _ u.1)))
        | inr u ↦ cc u.1
      ]
    ]

fraction-fault : (v : Fraction) (e : NumberFault) → e ≢ number.TooLarge → fraction_said v ≡ Err e
    → amount_of v ≡ Err (Number e)
fraction-fault v e other is =
    elim (chosen (v.den == 0) (Err number.ZeroDenominator) (in_range (lowest v)) (Err e) is) [
      | inl t ↦ ap (λ b. cond b (Err (Number number.ZeroDenominator)) (amount_within (lowest v))) t.0
          ∙ ap (λ d. Err (Number d)) (same-fault _ _ t.1)
      | inr t ↦ ap (λ b. cond b (Err (Number number.ZeroDenominator)) (amount_within (lowest v))) t.0
          ∙ range-fault (lowest v) e other t.1
    ]

spelled-fault : (o : Option Spelling) (e : NumberFault) → e ≢ number.TooLarge → spelling_said o ≡ Err e
    → spelled_amount o ≡ Err (Number e)
spelled-fault None e other is = ap (λ d. Err (Number d)) (same-fault _ _ is)
spelled-fault (Some s) e other is =
    elim (chosen (is_long s) (Err number.TooManyDigits) (fraction_said (value_of s)) (Err e) is) [
      | inl t ↦ ap (λ b. cond b (Err (Number number.TooManyDigits)) (amount_of (value_of s))) t.0
          ∙ ap (λ d. Err (Number d)) (same-fault _ _ t.1)
      | inr t ↦ ap (λ b. cond b (Err (Number number.TooManyDigits)) (amount_of (value_of s))) t.0
          ∙ fraction-fault (value_of s) e other t.1
    ]

pub number-fault : (text : List ℕ) (e : NumberFault) → e ≢ number.TooLarge → number_said text ≡ Err e
    → amount_said text ≡ Err (Number e)
number-fault text e other is = spelled-fault (spelling_of text) e other is

-- 2. A number above 2.

-- the fraction is above 2, and not too fine
pub record IsLarge (v : Fraction) : Type 0 where
  pub divided : 1 ≤ v.den
  pub fine : (lowest v).den ≤ finest
  pub above : most_value * (lowest v).den < (lowest v).num

range-large : (v : Fraction) → 1 ≤ v.den → in_range (lowest v) ≡ Err number.TooLarge → IsLarge v
range-large v some is =
    elim (chosen (nat_lt finest (lowest v).den) (Err number.TooFine)
    (cond (nat_lt (most_value * (lowest v).den) (lowest v).num) (Err number.TooLarge) (Ok (lowest v)))
    (Err number.TooLarge) is) [
      | inl t ↦ cc t.1
      | inr t ↦ elim (chosen (nat_lt (most_value * (lowest v).den) (lowest v).num) (Err number.TooLarge)
          (Ok (lowest v)) (Err number.TooLarge) t.1) [
            | inl u ↦ record {
              divided = some;
              fine = ltb-false finest (lowest v).den t.0;
              above = ltb-true (most_value * (lowest v).den) (lowest v).num u.0;
            }
            | inr u ↦ cc u.1
          ]
    ]

pub large-found : (v : Fraction) → fraction_said v ≡ Err number.TooLarge → IsLarge v
large-found v is =
    elim (chosen (v.den == 0) (Err number.ZeroDenominator) (in_range (lowest v)) (Err number.TooLarge) is) [
      | inl t ↦ cc t.1
      | inr t ↦ range-large v (some-from v.den t.0) t.1
    ]

-- its numerator is more than twice its denominator
pub large-above : (v : Fraction) → IsLarge v → 2 * v.den < v.num
large-above v h =
    elim (cases_Bool (nat_lt (2 * v.den) v.num)) [
      | inl t ↦ ltb-true (2 * v.den) v.num t
      | inr f ↦
          let first : (2 * (lowest v).den + 1) * v.den ≤ (lowest v).num * v.den =
          mul-le-mul_right v.den (omega (arith, h.above)) in
          let second : v.num * (lowest v).den ≤ (2 * v.den) * (lowest v).den =
          mul-le-mul_right (lowest v).den (ltb-false (2 * v.den) v.num f) in
          absurd (omega (arith, first, second, lowest-value v h.divided, h.divided))
    ]

-- a spelling above 2 has no more digits than may be read
pub large-spelled : (s : Spelling) → spelling_said (Some s) ≡ Err number.TooLarge
    → (is_long s ≡ false) × (fraction_said (value_of s) ≡ Err number.TooLarge)
large-spelled s is =
    elim (chosen (is_long s) (Err number.TooManyDigits) (fraction_said (value_of s)) (Err number.TooLarge) is) [
      | inl t ↦ cc t.1
      | inr t ↦ (t.0, t.1)
    ]

pub short-amount : (s : Spelling) → is_long s ≡ false → spelled_amount (Some s) ≡ amount_of (value_of s)
short-amount s short = ap (λ b. cond b (Err (Number number.TooManyDigits)) (amount_of (value_of s))) short

-- a decimal has no more digits than may be read
pub record IsShort (front back digits : List ℕ) : Type 0 where
  pub few : length front + length back ≤ most_digits
  pub short : length digits ≤ most_exponent_digits
  pub small : value_onto 0 digits ≤ most_exponent

pub short-decimal : (front back : List ℕ) (e : Exponent) → is_long (Decimal front back e) ≡ false
    → IsShort front back e.digits
short-decimal front back e is =
    let parts = or_parts (nat_lt most_digits (length front + length back))
    (nat_lt most_exponent_digits (length e.digits) || nat_lt most_exponent (value_onto 0 e.digits)) is in
    let power = or_parts (nat_lt most_exponent_digits (length e.digits)) (nat_lt most_exponent (value_onto 0 e.digits))
    parts.1 in
    record { few = ltb-false _ _ parts.0; short = ltb-false _ _ power.0; small = ltb-false _ _ power.1 }

pub short-quotient : (above below : List ℕ) → is_long (Quotient above below) ≡ false
    → (length above ≤ most_digits) × (length below ≤ most_digits)
short-quotient above below is =
    let parts = or_parts (nat_lt most_digits (length above)) (nat_lt most_digits (length below)) is in
    (ltb-false _ _ parts.0, ltb-false _ _ parts.1)

abbrev scaled : ℕ → ℕ → ℕ → Fraction
scaled digits up down = record { num = digits * 10 ^ up; den = 10 ^ down }

decimal-value : (front back : List ℕ) (e : Exponent) (all up down : ℕ) → all ≡ value_onto (value_onto 0 front) back
    → cond e.below 0 (value_onto 0 e.digits) ≡ up → length back + cond e.below (value_onto 0 e.digits) 0 ≡ down
    → value_of (Decimal front back e) ≡ record { num = all * 10 ^ up; den = 10 ^ down }
decimal-value front back e all up down is is-up is-down =
    ap (λ n. scaled n (cond e.below 0 (value_onto 0 e.digits)) (length back + cond e.below (value_onto 0 e.digits) 0))
    (value_append 0 front back ∙ sym is)
    ∙ ap (λ n. scaled all n (length back + cond e.below (value_onto 0 e.digits) 0)) is-up
    ∙ ap (λ n. scaled all up n) is-down

-- the value of a decimal whose exponent is below zero, from its digits and its places
pub decimal-below : (front back : List ℕ) (e : Exponent) (first all size : ℕ) → e.below ≡ true
    → first ≡ value_onto 0 front → all ≡ value_onto first back → size ≡ value_onto 0 e.digits
    → value_of (Decimal front back e) ≡ record { num = all * 10 ^ 0; den = 10 ^ (length back + size) }
decimal-below front back e first all size below is-first is-all is-size =
    decimal-value front back e all 0 (length back + size) (is-all ∙ ap (λ n. value_onto n back) is-first)
    (ap (λ b. cond b 0 (value_onto 0 e.digits)) below)
    (ap (λ b. length back + cond b (value_onto 0 e.digits) 0) below ∙ ap (λ n. length back + n) (sym is-size))

-- the value of a decimal whose exponent is not below zero
pub decimal-above : (front back : List ℕ) (e : Exponent) (first all size : ℕ) → e.below ≡ false
    → first ≡ value_onto 0 front → all ≡ value_onto first back → size ≡ value_onto 0 e.digits
    → value_of (Decimal front back e) ≡ record { num = all * 10 ^ size; den = 10 ^ length back }
decimal-above front back e first all size above is-first is-all is-size =
    decimal-value front back e all size (length back) (is-all ∙ ap (λ n. value_onto n back) is-first)
    (ap (λ b. cond b 0 (value_onto 0 e.digits)) above ∙ sym is-size)
    (ap (λ b. length back + cond b (value_onto 0 e.digits) 0) above ∙ omega arith)

-- 3. Powers of ten above and below the line.

pub amount-above_zero : (f : Fraction) → 1 ≤ f.den → amount_of f ≡ amount_within (lowest f)
amount-above_zero f h =
    ap (λ b. cond b (Err (Number number.ZeroDenominator)) (amount_within (lowest f))) (some-test f.den h)

ten-some : (n : ℕ) → 1 ≤ 10 ^ n
ten-some n = pow-pos 10 n (omega arith)

-- as many powers of ten less above the line as below it
pub large-shifted : (digits up down : ℕ) → up ≤ down
    → fraction_said (record { num = digits * 10 ^ up; den = 10 ^ down }) ≡ Err number.TooLarge
    → fraction_said (record { num = digits; den = 10 ^ (down - up) }) ≡ Err number.TooLarge
large-shifted digits up down h is =
    said-above_zero (record { num = digits; den = 10 ^ (down - up) }) (ten-some (down - up))
    ∙ ap in_range (sym (lowest-shifted digits up down h))
    ∙ sym (said-above_zero (record { num = digits * 10 ^ up; den = 10 ^ down }) (ten-some down)) ∙ is

pub amount-shifted : (digits up down : ℕ) → up ≤ down
    → amount_of (record { num = digits * 10 ^ up; den = 10 ^ down })
    ≡ amount_of (record { num = digits; den = 10 ^ (down - up) })
amount-shifted digits up down h =
    amount-above_zero (record { num = digits * 10 ^ up; den = 10 ^ down }) (ten-some down)
    ∙ ap amount_within (lowest-shifted digits up down h)
    ∙ sym (amount-above_zero (record { num = digits; den = 10 ^ (down - up) }) (ten-some (down - up)))

pub amount-whole : (digits up down : ℕ) → down ≤ up
    → amount_of (record { num = digits * 10 ^ up; den = 10 ^ down })
    ≡ amount_within (record { num = digits * 10 ^ (up - down); den = 1 })
amount-whole digits up down h =
    amount-above_zero (record { num = digits * 10 ^ up; den = 10 ^ down }) (ten-some down)
    ∙ ap amount_within (lowest-whole digits up down h)

-- a number above 2 has more digits than places
pub places-fit : (digits k : ℕ) → digits < 10 ^ most_digits
    → fraction_said (record { num = digits; den = 10 ^ k }) ≡ Err number.TooLarge → 10 ^ k < 10 ^ most_digits
places-fit digits k small is = let above = large-above (record { num = digits; den = 10 ^ k }) (large-found _ is) in
    omega (arith, above)

-- and some digit that is not 0
pub digits-some : (digits up down : ℕ)
    → fraction_said (record { num = digits * 10 ^ up; den = 10 ^ down }) ≡ Err number.TooLarge → 1 ≤ digits
digits-some zero up down is =
    let above = large-above (record { num = 0 * 10 ^ up; den = 10 ^ down }) (large-found _ is) in
    absurd (omega (arith, above))
digits-some (suc digits) up down is = omega arith

whole-large : (n : ℕ) → most_reward < n → amount_within (record { num = n; den = 1 }) ≡ Err TooLarge
whole-large n h = rw (lt-ltb (most_reward * 1) n (omega (arith, h))) refl

-- many powers of ten are too large
pub many-tens : (digits k : ℕ) → 1 ≤ digits → 15 < k
    → amount_within (record { num = digits * 10 ^ k; den = 1 }) ≡ Err TooLarge
many-tens digits k some h =
    let ten : 10 ^ 16 ≤ 10 ^ k = pow-rises 10 16 k (omega arith) (omega arith) in
    let more : 1 * 10 ^ k ≤ digits * 10 ^ k = mul-le-mul_right (10 ^ k) some in
    whole-large (digits * 10 ^ k) (omega (arith, ten, more))

-- and so are many digits
pub many-digits : (digits k : ℕ) → most_reward < digits
    → amount_within (record { num = digits * 10 ^ k; den = 1 }) ≡ Err TooLarge
many-digits digits k h =
    let more : digits * 1 ≤ digits * 10 ^ k = mul-le-mul_left digits (ten-some k) in
    whole-large (digits * 10 ^ k) (omega (arith, h, more))
