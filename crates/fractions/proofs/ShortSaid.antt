-- What is said of a short decimal.
use Rattle.std.proofs.Common.{◌≡◌, ◌∙◌, ◌≤◌, ◌-◌, ◌^◌, inr, inl, ℕ, suc, List, [], ◌∷◌, refl, ap, sym, subst, true}
use Rattle.std.proofs.Common.{false, Option, Some, None, length, take, drop, slice_index_or, ◌&&◌, arith}
use Rattle.std.specs.Prelude.{IfSome}
use Rattle.std.proofs.lemmas.List.{take_all, append-nil}
use Rattle.text_lines.specs.Text.{is_digit, all_digits, value_onto}
use Rattle.fractions.specs.declared.tens.Tens.{Tens}
use Rattle.fractions.specs.Fraction.{Fraction}
use Rattle.fractions.specs.inside.Short.{AreDecimal}
use Rattle.numerals.specs.Spelling.{Decimal, Spells, no_exponent}
use Rattle.fractions.specs.Number.{fraction_said, spelling_said, number_said}
use Rattle.numerals.proofs.Grammar.{spelling_of-again}
use Rattle.fractions.proofs.Said.{point-said}

-- what is said of a spelling of a digit and digits behind it
decimal-said : (text : List ℕ) (front : ℕ) (back : List ℕ) (tens : Tens)
    → Spells text (Decimal (front ∷ []) back no_exponent) → AreDecimal front back tens
    → number_said text ≡ fraction_said (record { num = tens.num; den = tens.den })
decimal-said text front back tens spelled h =
    let fraction : ℕ → ℕ → Fraction = λ n d. record { num = n; den = d } in
    let digits : tens.num ≡ value_onto (value_onto 0 (front ∷ [])) back =
    h.num ∙ ap (λ n. value_onto n back) (omega arith) in
    let said = point-said (front ∷ []) back [] false tens.num 0 (length back) (omega (arith, h.few)) (omega arith)
    (omega arith) refl digits refl refl in
    ap spelling_said (spelling_of-again text (Decimal (front ∷ []) back no_exponent) spelled)
    ∙ sym said
    ∙ ap (λ n. fraction_said (fraction n (10 ^ length back))) (omega arith)
    ∙ ap (λ d. fraction_said (fraction tens.num d)) (sym h.den)

one-digit : (front : ℕ) → is_digit front ≡ true → all_digits (front ∷ []) ≡ true
one-digit front is = ap (λ b. b && true) is

pub point_decimal : (text : List ℕ) (given : Option Tens) → 2 ≤ length text → slice_index_or text 1 0 ≡ 46
    → IfSome given (AreDecimal (slice_index_or text 0 0) (take (length text - 2) (drop 2 text)))
    → IfSome given (λ tens. number_said text ≡ fraction_said (record { num = tens.num; den = tens.den }))
point_decimal [] given long point is = absurd (omega arith)
point_decimal (front ∷ []) given long point is = absurd (omega arith)
point_decimal (front ∷ b ∷ back) None long point is = tt
point_decimal (front ∷ b ∷ back) (Some tens) long point is =
    let P : List ℕ → Type 0 = λ digits. AreDecimal front digits tens in
    let h : AreDecimal front back tens = subst P (take_all (suc (suc (length back)) - 2) back (omega arith)) is in
    decimal-said (front ∷ b ∷ back) front back tens (record {
      middle = 46 ∷ back;
      end = [];
      parts = ap (λ n. front ∷ n ∷ back) point ∙ ap (λ digits. front ∷ 46 ∷ digits) (sym (append-nil back));
      digits = ((λ n. cc n), one-digit front h.front_digit);
      point = inr (refl, h.back_digits);
      power = inl (refl, refl);
    }) h
