-- The laws of numbers: what is written in decimal is read back.
use Rattle.std.proofs.Common.{◌≡◌, ◌<◌, ◌^◌, ℕ, List, [], ◌∷◌, length, ap, ◌∙◌, true, cond, Some, None, arith, rules}
use Rattle.std.specs.Fmt.{decimal}
use Rattle.std.proofs.lemmas.Fmt.{digits_decimal, digits_value-decimal, decimal_nonempty}
use Rattle.std.proofs.lemmas.Str.Parse.{IsNumeralModel, numerals_by_fold}
use Rattle.text_lines.specs.Text.{all_digits, value_onto, number_of}

own : IsNumeralModel (λ ds. all_digits ds ≡ true) (value_onto 0)
own = numerals_by_fold _ (search rules) value_onto (search rules)

number_from : (digits : List ℕ) (n : ℕ) → all_digits digits ≡ true → value_onto 0 digits ≡ n → 0 < length digits
    → number_of digits ≡ Some n
number_from [] n all value some = absurd (omega arith)
number_from (b ∷ bytes) n all value some =
    ap (λ v. cond v (Some (value_onto 0 (b ∷ bytes))) None) all ∙ ap (λ m. Some m) value

pub number_of-decimal : (n : ℕ) → n < 2 ^ 64 → number_of (decimal n) ≡ Some n
number_of-decimal n small =
    number_from (decimal n) n (digits_decimal own n small) (digits_value-decimal own n small) (decimal_nonempty n small)

pub number_of-zero : (field : List ℕ) (n : ℕ) → number_of field ≡ Some n → number_of (48 ∷ field) ≡ Some n
number_of-zero [] n h = cc
number_of-zero (b ∷ bytes) n h = h
