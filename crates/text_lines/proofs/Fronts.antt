-- The field at the front, a digit after another.
use Rattle.std.proofs.Common.{◌≡◌, ◌<◌, ◌+◌, ◌-◌, ◌*◌, ◌^◌, ℕ, List, [], ◌∷◌, length, take, drop, get_or, sym, ap, ◌∙◌}
use Rattle.std.proofs.Common.{refl, subst, true, false, arith, suc, Option, Some, ◌&&◌, eqb}
use Rattle.std.specs.Option.{option_map}
use Rattle.std.proofs.lemmas.Bool.Decides.{nat_tests}
use Rattle.std.proofs.lemmas.List.{take_all}
use Rattle.text_lines.specs.Text.{fields_of, is_nil, ends_field, is_blank, is_digit, all_digits, value_onto, number_of}
use Rattle.text_lines.specs.Text.{saturated, skip_blanks}
use Rattle.text_lines.specs.Numbers.{BeginsWithNumber}
use Rattle.text_lines.specs.inside.Digits.{front_field, behind_field, AreDigitsBefore}
use Rattle.text_lines.proofs.Texts.{BeginsField, field_split, field_len_step, fields_behind_blanks, field_begins}
use Rattle.text_lines.proofs.Texts.{no_more}
use Rattle.text_lines.proofs.Digits.{is_number}

digit_no_blank : (b : ℕ) → is_digit b ≡ true → is_blank b ≡ false
digit_no_blank b e = grind (arith, nat_tests)

pub no_digit : (text : List ℕ) → AreDigitsBefore text 0 text
no_digit text = record { digits = refl; value = refl; behind = refl }

digit_more : (text : List ℕ) (value b : ℕ) (bytes : List ℕ) → is_digit b ≡ true
    → AreDigitsBefore text value (b ∷ bytes) → AreDigitsBefore text (10 * value + (b - 48)) bytes
digit_more text value b bytes digit is =
    let len = field_len_step b bytes (digit_no_blank b digit) in
    let front : front_field (b ∷ bytes) ≡ b ∷ front_field bytes = ap (λ k. take k (b ∷ bytes)) len in
    let behind : behind_field (b ∷ bytes) ≡ behind_field bytes = ap (λ k. drop k (b ∷ bytes)) len in
    record {
      digits = sym (ap all_digits front ∙ ap (λ d. d && all_digits (front_field bytes)) digit) ∙ is.digits;
      value = sym (ap (λ t. value_onto value t) front) ∙ is.value;
      behind = sym behind ∙ is.behind;
    }

-- the digit at the front of the rest is read
pub digit_read : (text : List ℕ) (value : ℕ) (rest : List ℕ) (digit : ℕ) → 0 < length rest
    → is_digit (get_or rest 0 0) ≡ true → digit ≡ get_or rest 0 0 - 48 → AreDigitsBefore text value rest
    → AreDigitsBefore text (10 * value + digit) (take (length rest - 1) (drop 1 rest))
digit_read text value [] digit some is_one is before = absurd (omega arith)
digit_read text value (b ∷ bytes) digit some is_one is before =
    let P : List ℕ → Type 0 = λ t. AreDigitsBefore text (10 * value + digit) t in
    let Q : ℕ → Type 0 = λ d. AreDigitsBefore text (10 * value + d) bytes in
    subst P (sym (take_all (suc (length bytes) - 1) bytes (omega arith)))
    (subst Q (sym is) (digit_more text value b bytes is_one before))

front_some : (text : List ℕ) → BeginsField text → 0 < length (front_field text)
front_some [] h = absurd h
front_some (b ∷ bytes) h =
    let P : ℕ → Type 0 = λ k. 0 < length (take k (b ∷ bytes)) in
    subst P (sym (field_len_step b bytes h)) (omega arith)

-- at the end of a field no more of it stands in front
ended : (rest : List ℕ) (value : ℕ) → ends_field rest ≡ true → (all_digits (front_field rest) ≡ true)
    × ((value_onto value (front_field rest) ≡ value) × (behind_field rest ≡ rest))
ended rest value e =
    let len = no_more rest e in
    let none : front_field rest ≡ [] = ap (λ k. take k rest) len in
    (ap all_digits none, (ap (λ t. value_onto value t) none, ap (λ k. drop k rest) len))

number_at_front : (text : List ℕ) (value : ℕ) (rest : List ℕ) → BeginsField text → value < 2 ^ 64
    → AreDigitsBefore text value rest → ends_field rest ≡ true → BeginsWithNumber text (Some value) rest
number_at_front text value rest begins small is ends =
    let at = ended rest value ends in
    let same : value ≡ value_onto 0 (front_field text) = sym at.1.0 ∙ is.value in
    record {
      field = front_field text;
      fields = field_split text begins ∙ ap (λ t. front_field text ∷ fields_of t) (sym is.behind ∙ at.1.1);
      number = sym (is_number (front_field text) value (front_some text begins) (sym is.digits ∙ at.0) small
          (ap saturated same));
    }

-- what stands behind the blanks of a line has its fields
begins_behind : (line text : List ℕ) → text ≡ skip_blanks line → 0 < length text → BeginsField text
begins_behind line text same =
    let P : List ℕ → Type 0 = λ t. 0 < length t → BeginsField t in
    subst P (sym same) (field_begins line)

same_fields : (line text : List ℕ) → text ≡ skip_blanks line → fields_of line ≡ fields_of text
same_fields line text same = sym (fields_behind_blanks line) ∙ ap fields_of (sym same)

pub number_of_line : (line text : List ℕ) (value : ℕ) (rest : List ℕ) → text ≡ skip_blanks line
    → 0 < length text → value < 2 ^ 64 → AreDigitsBefore text value rest → ends_field rest ≡ true
    → BeginsWithNumber line (Some value) rest
number_of_line line text value rest same some small is ends =
    let at = number_at_front text value rest (begins_behind line text same some) small is ends in
    record { field = at.field; fields = same_fields line text same ∙ at.fields; number = at.number }

pub field_of_line : (line text field rest : List ℕ) (spelled : Option ℕ) → text ≡ skip_blanks line → 0 < length text
    → field ≡ front_field text → rest ≡ behind_field text → spelled ≡ option_map saturated (number_of field)
    → BeginsWithNumber line spelled rest
field_of_line line text field rest spelled same some front behind is =
    let split = same_fields line text same ∙ field_split text (begins_behind line text same some) in
    record {
      field = field;
      fields = split ∙ ap (λ t. t ∷ fields_of (behind_field text)) (sym front)
          ∙ ap (λ t. field ∷ fields_of t) (sym behind);
      number = is;
    }

nil_at : (text : List ℕ) → (0 < length text → BeginsField text) → (eqb (length text) 0) ≡ is_nil (fields_of text)
nil_at [] h = refl
nil_at (b ∷ bytes) h =
    let e : (eqb (length (b ∷ bytes)) 0) ≡ false = grind arith in
    e ∙ sym (ap is_nil (field_split (b ∷ bytes) (h (omega arith))))

pub blank_line : (line : List ℕ) → (eqb (length (skip_blanks line)) 0) ≡ is_nil (fields_of line)
blank_line line = nil_at (skip_blanks line) (field_begins line) ∙ ap is_nil (fields_behind_blanks line)

pub nil_is : (fields : List (List ℕ)) → is_nil fields ≡ true → fields ≡ []
nil_is [] h = refl
nil_is (field ∷ fields) h = cc
