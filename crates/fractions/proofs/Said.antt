-- The fraction that is said of a text is the one that it denotes.
use Rattle.std.proofs.Common.{◌≡◌, ◌∙◌, ◌≤◌, ◌+◌, ◌*◌, ◌^◌, inl, inr, ℕ, List, ◌++◌, refl, ap, sym, subst, Bool, false}
use Rattle.std.proofs.Common.{cond, Option, Some, None, Result, Ok, Err, length, arith}
use Rattle.std.specs.Prelude.{◌==◌, nat_lt}
use Rattle.std.proofs.lemmas.Bool.Decides.{nat_tests}
use Rattle.std.proofs.lemmas.Bool.{le-ltb, ltb-false}
use Rattle.fractions.specs.declared.number.NumberFault.{NumberFault}
use Rattle.fractions.specs.declared.number.NumberFault.TheVariants.{TooManyDigits, ZeroDenominator, TooFine}
use Rattle.fractions.specs.declared.number.NumberFault.TheVariants.{TooLarge}
use Rattle.text_lines.specs.Text.{value_onto}
use Rattle.numerals.specs.Limits.{most_digits, most_exponent, most_exponent_digits}
use Rattle.fractions.specs.Limits.{finest, most_value}
use Rattle.fractions.specs.Fraction.{Fraction, IsFraction, SameValue, lowest}
use Rattle.numerals.specs.Spelling.{Spelling, Decimal, is_long}
use Rattle.fractions.specs.Number.{value_of, DenotesNumber, in_range, fraction_said}
use Rattle.numerals.specs.Spelling.{spelling_of}
use Rattle.fractions.specs.Number.{spelling_said, number_said}
use Rattle.fractions.proofs.Euclid.{coprime-div, lowest-value, lowest-pos, lowest-is}
use Rattle.numerals.proofs.Spelled.{value_append}
use Rattle.numerals.proofs.Grammar.{chosen, spelling_of-found, spelling_of-again}

pub some-from : (a : ℕ) → (a == 0) ≡ false → 1 ≤ a
some-from a e = grind (arith, nat_tests)

pub some-test : (a : ℕ) → 1 ≤ a → (a == 0) ≡ false
some-test a h = grind (arith, nat_tests)

ok-same : (f g : Fraction) → ◌≡◌ {A = Result Fraction NumberFault} (Ok f) (Ok g) → f ≡ g
ok-same f g e = cc

pub record InRange (f g : Fraction) : Type 0 where
  pub same : f ≡ g
  pub fine : f.den ≤ finest
  pub small : f.num ≤ most_value * f.den

in_range-found : (f g : Fraction) → in_range f ≡ Ok g → InRange f g
in_range-found f g is =
    elim (chosen (nat_lt finest f.den) (Err TooFine)
    (cond (nat_lt (most_value * f.den) f.num) (Err TooLarge) (Ok f)) (Ok g) is) [
      | inl t ↦ cc t.1
      | inr t ↦ elim (chosen (nat_lt (most_value * f.den) f.num) (Err TooLarge) (Ok f) (Ok g) t.1) [
        | inl u ↦ cc u.1
        | inr u ↦ record {
          same = ok-same f g u.1;
          fine = ltb-false finest f.den t.0;
          small = ltb-false (most_value * f.den) f.num u.0;
        }
      ]
    ]

pub in_range-again : (f : Fraction) → f.den ≤ finest → f.num ≤ most_value * f.den → in_range f ≡ Ok f
in_range-again f fine small = rw (le-ltb finest f.den fine) (rw (le-ltb (most_value * f.den) f.num small) refl)

-- a value above the line and its fraction
pub record IsSaid (v f : Fraction) : Type 0 where
  pub divided : 1 ≤ v.den
  pub value : SameValue f v
  pub fraction : IsFraction f

said-lowest : (v f : Fraction) → 1 ≤ v.den → lowest v ≡ f → (lowest v).den ≤ finest
    → (lowest v).num ≤ most_value * (lowest v).den → IsSaid v f
said-lowest v f h same fine small =
    let P : Fraction → Type 0 = λ x. IsSaid v x in
    subst P same (record {
      divided = h;
      value = lowest-value v h;
      fraction = record { lowest = coprime-div v.num v.den h; positive = lowest-pos v h; fine = fine; small = small };
    })

fraction_said-found : (v f : Fraction) → fraction_said v ≡ Ok f → IsSaid v f
fraction_said-found v f is =
    elim (chosen (v.den == 0) (Err ZeroDenominator) (in_range (lowest v)) (Ok f) is) [
      | inl t ↦ cc t.1
      | inr t ↦
          let range = in_range-found (lowest v) f t.1 in
          said-lowest v f (some-from v.den t.0) range.same range.fine range.small
    ]

fraction_said-again : (v f : Fraction) → IsSaid v f → fraction_said v ≡ Ok f
fraction_said-again v f h =
    ap (λ b. cond b (Err ZeroDenominator) (in_range (lowest v))) (some-test v.den h.divided)
    ∙ ap in_range (lowest-is v f h.divided h.fraction.positive h.fraction.lowest h.value)
    ∙ in_range-again f h.fraction.fine h.fraction.small

spelling-found : (text : List ℕ) (o : Option Spelling) (f : Fraction) → spelling_of text ≡ o → spelling_said o ≡ Ok f
    → DenotesNumber text f
spelling-found text None f is said = cc
spelling-found text (Some s) f is said =
    elim (chosen (is_long s) (Err TooManyDigits) (fraction_said (value_of s)) (Ok f) said) [
      | inl t ↦ cc t.1
      | inr t ↦
          let found = fraction_said-found (value_of s) f t.1 in
          record {
            spelling = s;
            spelled = spelling_of-found text s is;
            short = t.0;
            divided = found.divided;
            value = found.value;
            fraction = found.fraction;
          }
    ]

pub number-found : (text : List ℕ) (f : Fraction) → number_said text ≡ Ok f → DenotesNumber text f
number-found text f is = spelling-found text (spelling_of text) f refl is

pub number-again : (text : List ℕ) (f : Fraction) → DenotesNumber text f → number_said text ≡ Ok f
number-again text f h =
    ap spelling_said (spelling_of-again text h.spelling h.spelled)
    ∙ ap (λ b. cond b (Err TooManyDigits) (fraction_said (value_of h.spelling))) h.short
    ∙ fraction_said-again (value_of h.spelling) f
    (record { divided = h.divided; value = h.value; fraction = h.fraction })

-- what is said of a decimal whose exponent is not below zero
pub point-said : (front back digits : List ℕ) (below : Bool) (all up down : ℕ)
    → length front + length back ≤ most_digits → length digits ≤ most_exponent_digits
    → value_onto 0 digits ≤ most_exponent → below ≡ false
    → all ≡ value_onto (value_onto 0 front) back → up ≡ value_onto 0 digits → down ≡ length back
    → fraction_said (record { num = all * 10 ^ up; den = 10 ^ down })
    ≡ spelling_said (Some (Decimal front back (record { below = below; digits = digits })))
point-said front back digits below all up down few short small above is is-up is-down =
    let fraction : ℕ → ℕ → ℕ → Fraction = λ n u d. record { num = n * 10 ^ u; den = 10 ^ d } in
    let spelling : Spelling = Decimal front back (record { below = below; digits = digits }) in
    let fits : is_long spelling ≡ false = rw (le-ltb most_digits (length front + length back) few)
    (rw (le-ltb most_exponent_digits (length digits) short) (le-ltb most_exponent (value_onto 0 digits) small)) in
    sym (ap (λ b. cond b (Err TooManyDigits) (fraction_said (value_of spelling))) fits
    ∙ ap (λ v. fraction_said (fraction (value_onto 0 (front ++ back)) (cond v 0 (value_onto 0 digits))
    (length back + cond v (value_onto 0 digits) 0))) above
    ∙ ap (λ n. fraction_said (fraction n (value_onto 0 digits) (length back + 0))) (value_append 0 front back ∙ sym is)
    ∙ ap (λ u. fraction_said (fraction all u (length back + 0))) (sym is-up)
    ∙ ap (λ d. fraction_said (fraction all up d)) (omega arith))
