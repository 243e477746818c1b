-- A printed fraction is a number of its value, and so is a printed number of steps.
use Rattle.std.proofs.Common.{◌≡◌, ◌∙◌, ◌+◌, ◌-◌, ◌*◌, ◌/◌, ◌%◌, ◌^◌, ◌<◌, ◌≤◌, inl, ℕ, List, [], ◌∷◌, ◌++◌, length}
use Rattle.std.proofs.Common.{Bool, true, false, cond, Some, None, refl, ap, sym, arith, nat_lt}
use Rattle.std.proofs.lemmas.Bool.{and_from, and_parts}
use Rattle.std.specs.Prelude.{◌==◌, ◌||◌, codes, decimal}
use Rattle.std.proofs.lemmas.Fmt.{decimal_by_steps_wide, length-decimal-le_wide}
use Rattle.std.proofs.lemmas.List.{append-nil}
use Rattle.std.proofs.lemmas.Bool.Decides.{nat_tests}
use Rattle.text_lines.specs.Text.{all_digits, value_onto, is_digit, number_of}
use Rattle.numerals.specs.Limits.{most_digits}
use Rattle.fractions.specs.Limits.{finest}
use Rattle.fractions.specs.Fraction.{Fraction, SameValue}
use Rattle.numerals.specs.Spelling.{Spelling, Decimal, Quotient, Spells, no_exponent, AreDigits, is_long}
use Rattle.fractions.specs.Number.{DenotesNumber, value_of}
use Rattle.numerals.proofs.Spelled.{value_append}
use Rattle.formula_reader.specs.Limits.{most_steps}
use Rattle.formula_reader.specs.Rules.{IsSteps}
use Rattle.rpatl_syntax.specs.Spelling.{fraction_spelling}
use Rattle.rpatl_syntax.specs.Spellable.{IsShare}
use Rattle.rpatl_syntax.proofs.Laying.{in_fraction, all_in_fraction}

-- 1. Fractions.

-- the digits of a number
pub record Numeral (n : ℕ) (digits : List ℕ) : Type 0 where
  pub first : ℕ
  pub others : List ℕ
  pub whole : digits ≡ first ∷ others
  pub all : all_digits digits ≡ true
  pub value : value_onto 0 digits ≡ n

digit_is : (n : ℕ) → n < 10 → is_digit (48 + n) ≡ true
digit_is n h = grind (arith, nat_tests)

one_digit : (n : ℕ) → n < 10 → Numeral n ((48 + n) ∷ [])
one_digit n h = record {
  first = 48 + n;
  others = [];
  whole = refl;
  all = and_from (is_digit (48 + n)) true (digit_is n h) refl;
  value = let e : 10 * 0 + (48 + n - 48) ≡ n = omega arith in e;
}

pub digits_append : (front back : List ℕ) → all_digits front ≡ true → all_digits back ≡ true
    → all_digits (front ++ back) ≡ true
digits_append [] back a b = b
digits_append (d ∷ front) back a b =
    let parts = and_parts (is_digit d) (all_digits front) a in
    and_from (is_digit d) (all_digits (front ++ back)) parts.0 (digits_append front back parts.1 b)

last_digit : (n : ℕ) (front : List ℕ) → 10 ≤ n → Numeral (n / 10) front → Numeral n (front ++ ((48 + n % 10) ∷ []))
last_digit n front h m =
    let small : n % 10 < 10 = omega arith in
    let e : 10 * (n / 10) + (48 + n % 10 - 48) ≡ n = omega arith in
    record {
      first = m.first;
      others = m.others ++ ((48 + n % 10) ∷ []);
      whole = ap (λ ds. ds ++ ((48 + n % 10) ∷ [])) m.whole;
      all = digits_append front ((48 + n % 10) ∷ []) m.all
          (and_from (is_digit (48 + n % 10)) true (digit_is (n % 10) small) refl);
      value = value_append 0 front ((48 + n % 10) ∷ []) ∙ ap (λ v. 10 * v + (48 + n % 10 - 48)) m.value ∙ e;
    }

numeral : (n : ℕ) → n < 10 ^ 64 → Numeral n (decimal n)
numeral n h = decimal_by_steps_wide Numeral one_digit last_digit n h

digits_in_fraction : (digits : List ℕ) → all_digits digits ≡ true → all_in_fraction digits ≡ true
digits_in_fraction [] a = refl
digits_in_fraction (d ∷ digits) a =
    let parts = and_parts (is_digit d) (all_digits digits) a in
    and_from (in_fraction d) (all_in_fraction digits) (ap (λ t. t || d == 47) parts.0)
    (digits_in_fraction digits parts.1)

fraction_append : (front back : List ℕ) → all_in_fraction front ≡ true → all_in_fraction back ≡ true
    → all_in_fraction (front ++ back) ≡ true
fraction_append [] back a b = b
fraction_append (d ∷ front) back a b =
    let parts = and_parts (in_fraction d) (all_in_fraction front) a in
    and_from (in_fraction d) (all_in_fraction (front ++ back)) parts.0 (fraction_append front back parts.1 b)

-- the numbers of a fraction have no more digits than may be read
pub record HasFewDigits (p : Fraction) : Type 0 where
  pub few : p.num < 10 ^ most_digits
  pub positive : 1 ≤ p.den
  pub fine : p.den ≤ finest

-- the text of a fraction is a number of its value
pub record WrittenFraction (p : Fraction) (text : List ℕ) : Type 0 where
  pub first : ℕ
  pub others : List ℕ
  pub whole : text ≡ first ∷ others
  pub digit : is_digit first ≡ true
  pub rest : all_in_fraction others ≡ true
  pub spelling : Spelling
  pub spelled : Spells text spelling
  pub short : is_long spelling ≡ false
  pub divided : 1 ≤ (value_of spelling).den
  pub value : SameValue p (value_of spelling)

some_digits : (n : ℕ) (digits : List ℕ) → Numeral n digits → AreDigits digits
some_digits n digits m = (λ none. let e : m.first ∷ m.others ≡ [] = sym m.whole ∙ none in cc e, m.all)

first_digit : (n : ℕ) (digits : List ℕ) (m : Numeral n digits)
    → (is_digit m.first ≡ true) × (all_digits m.others ≡ true)
first_digit n digits m = and_parts (is_digit m.first) (all_digits m.others) (ap all_digits (sym m.whole) ∙ m.all)

few_digits : (n : ℕ) → n < 10 ^ most_digits → nat_lt most_digits (length (decimal n)) ≡ false
few_digits n h =
    let l : length (decimal n) ≤ 30 = length-decimal-le_wide 30 n (omega arith) h (omega (arith, h)) in
    grind (arith, nat_tests)

same_parts : (p : Fraction) (n d : ℕ) → n ≡ p.num → d ≡ p.den → p.num * d ≡ n * p.den
same_parts p n d a b = ap (λ k. p.num * k) b ∙ ap (λ k. k * p.den) (sym a)

quotient_text : (p : Fraction) → HasFewDigits p
    → WrittenFraction p (decimal p.num ++ (codes "/" ++ decimal p.den))
quotient_text p is =
    let n = numeral p.num (omega (arith, is.few)) in
    let d = numeral p.den (omega (arith, is.fine)) in
    let head = first_digit p.num (decimal p.num) n in
    record {
      first = n.first;
      others = n.others ++ (codes "/" ++ decimal p.den);
      whole = ap (λ ds. ds ++ (codes "/" ++ decimal p.den)) n.whole;
      digit = head.0;
      rest = fraction_append n.others (codes "/" ++ decimal p.den) (digits_in_fraction n.others head.1)
          (digits_in_fraction (decimal p.den) d.all);
      spelling = Quotient (decimal p.num) (decimal p.den);
      spelled = record {
        parts = refl;
        numerator = some_digits p.num (decimal p.num) n;
        denominator = some_digits p.den (decimal p.den) d;
      };
      short = ap (λ t. t || nat_lt most_digits (length (decimal p.den))) (few_digits p.num is.few)
          ∙ few_digits p.den (omega (arith, is.fine));
      divided = let positive : 1 ≤ p.den = is.positive in omega (arith, d.value, positive);
      value = same_parts p (value_onto 0 (decimal p.num)) (value_onto 0 (decimal p.den)) n.value d.value;
    }

whole_text : (p : Fraction) → HasFewDigits p → p.den ≡ 1 → WrittenFraction p (decimal p.num)
whole_text p is one =
    let n = numeral p.num (omega (arith, is.few)) in
    let head = first_digit p.num (decimal p.num) n in
    let short : nat_lt most_digits (length (decimal p.num) + 0) ≡ false =
    ap (λ k. nat_lt most_digits k) (let e : length (decimal p.num) + 0 ≡ length (decimal p.num) = omega arith in e)
    ∙ few_digits p.num is.few in
    let value : value_onto 0 (decimal p.num ++ []) * 1 ≡ p.num = let v : value_onto 0 (decimal p.num ++ []) ≡ p.num =
    ap (value_onto 0) (append-nil (decimal p.num)) ∙ n.value in omega (arith, v) in
    record {
      first = n.first;
      others = n.others;
      whole = n.whole;
      digit = head.0;
      rest = digits_in_fraction n.others head.1;
      spelling = Decimal (decimal p.num) [] no_exponent;
      spelled = record {
        middle = [];
        end = [];
        parts = sym (append-nil (decimal p.num));
        digits = some_digits p.num (decimal p.num) n;
        point = inl (refl, refl);
        power = inl (refl, refl);
      };
      short = ap (λ t. t || false) short;
      divided = omega arith;
      value = same_parts p (value_onto 0 (decimal p.num ++ []) * 1) 1 value (sym one);
    }

den_one : (d : ℕ) → (d == 1) ≡ true → d ≡ 1
den_one d e = grind (arith, nat_tests)

pub fraction_text : (p : Fraction) → HasFewDigits p → WrittenFraction p (fraction_spelling p)
fraction_text p is = by_test (p.den == 1) refl
  where
    by_test : (t : Bool) → (p.den == 1) ≡ t
        → WrittenFraction p (cond t (decimal p.num) (decimal p.num ++ (codes "/" ++ decimal p.den)))
    by_test true e = whole_text p is (den_one p.den e)
    by_test false e = quotient_text p is

pub share_digits : (p : Fraction) → IsShare p → HasFewDigits p
share_digits p is =
    let fine : p.den ≤ finest = is.fraction.fine in
    record { few = omega (arith, is.small, fine); positive = is.fraction.positive; fine = fine }

pub share_denotes : (p : Fraction) → IsShare p → DenotesNumber (fraction_spelling p) p
share_denotes p is =
    let t = fraction_text p (share_digits p is) in
    record {
      spelling = t.spelling;
      spelled = t.spelled;
      short = t.short;
      divided = t.divided;
      value = t.value;
      fraction = is.fraction;
    }

-- 2. Steps.

-- the text of a number of steps
pub record StepsText (k : ℕ) (text : List ℕ) : Type 0 where
  pub first : ℕ
  pub others : List ℕ
  pub whole : text ≡ first ∷ others
  pub digit : is_digit first ≡ true
  pub rest : all_in_fraction others ≡ true
  pub steps : IsSteps text k

number_is : (n : ℕ) (digits : List ℕ) (m : Numeral n digits) → number_of digits ≡ Some n
number_is n digits m =
    ap number_of m.whole
    ∙ ap (λ t. cond t (Some (value_onto 0 (m.first ∷ m.others))) None) (ap all_digits (sym m.whole) ∙ m.all)
    ∙ ap (λ (v : ℕ). Some v) (ap (value_onto 0) (sym m.whole) ∙ m.value)

pub steps_text : (k : ℕ) → k ≤ most_steps → StepsText k (decimal k)
steps_text k h =
    let n = numeral k (omega (arith, h)) in
    let head = first_digit k (decimal k) n in
    record {
      first = n.first;
      others = n.others;
      whole = n.whole;
      digit = head.0;
      rest = digits_in_fraction n.others head.1;
      steps = record { value = number_is k (decimal k) n; small = h };
    }
