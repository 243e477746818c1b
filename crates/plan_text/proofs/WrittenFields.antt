-- A written line: its bytes, and its fields.
use Rattle.std.proofs.Common.{◌≡◌, ◌∙◌, ◌≤◌, ◌<◌, ◌+◌, ◌/◌, ◌%◌, ◌^◌, ℕ, zero, suc, List, [], ◌∷◌, ◌++◌, length, Option}
use Rattle.std.proofs.Common.{None, Some, false, refl, ap, arith}
use Rattle.std.specs.Prelude.{decimal}
use Rattle.std.proofs.lemmas.Bool.Decides.{nat_tests}
use Rattle.std.proofs.lemmas.Fmt.{decimal_by_steps, decimal_nonempty}
use Rattle.game_model.specs.Limits.{unit}
use Rattle.text_lines.specs.Text.{lines_of, fields_of, is_blank}
use Rattle.text_lines.specs.Laws.{HasNo, EndsInNoCr, HasNoBlank}
use Rattle.text_lines.proofs.LineLaws.{lines_of-lf}
use Rattle.text_lines.proofs.FieldLaws.{fields_of-parted, fields_of-field}
use Rattle.plan_text.specs.Fixed.{fixed, last_digits, unit_digits}
use Rattle.plan_text.specs.Entries.{IsSmall}
use Rattle.plan_text.specs.Written.{choice_text, behind_space}

-- 1. No byte is below this one.

abbrev pub AreFrom : ℕ → List ℕ → Type 0
AreFrom low [] = Unit {0}
AreFrom low (b ∷ bytes) = (low ≤ b) × AreFrom low bytes

pub AreFrom-append : (low : ℕ) (xs ys : List ℕ) → AreFrom low xs → AreFrom low ys → AreFrom low (xs ++ ys)
AreFrom-append low [] ys front back = back
AreFrom-append low (b ∷ xs) ys front back = (front.0, AreFrom-append low xs ys front.1 back)

AreFrom-weaker : (bytes : List ℕ) → AreFrom 33 bytes → AreFrom 32 bytes
AreFrom-weaker [] above = tt
AreFrom-weaker (b ∷ bytes) above = (omega (arith, above.0), AreFrom-weaker bytes above.1)

HasNo-lf : (bytes : List ℕ) → AreFrom 32 bytes → HasNo 10 bytes
HasNo-lf [] above = tt
HasNo-lf (b ∷ bytes) above = (omega (arith, above.0), HasNo-lf bytes above.1)

EndsInNoCr-printed : (bytes : List ℕ) → AreFrom 32 bytes → EndsInNoCr bytes
EndsInNoCr-printed [] above = tt
EndsInNoCr-printed (b ∷ []) above = omega (arith, above.0)
EndsInNoCr-printed (b ∷ c ∷ bytes) above = EndsInNoCr-printed (c ∷ bytes) above.1

HasNoBlank-printed : (bytes : List ℕ) → AreFrom 33 bytes → HasNoBlank bytes
HasNoBlank-printed [] above = tt
HasNoBlank-printed (b ∷ bytes) above = (no_blank b above.0, HasNoBlank-printed bytes above.1)
  where
    no_blank : (b : ℕ) → 33 ≤ b → is_blank b ≡ false
    no_blank b above = grind (arith, nat_tests)

-- 2. Each field has a byte, and none of them is blank.

pub record IsField (field : List ℕ) : Type 0 where
  pub printed : AreFrom 33 field
  pub some : 0 < length field

pub IsField-decimal : (n : ℕ) → n < 2 ^ 64 → IsField (decimal n)
IsField-decimal n small = record {
  printed = decimal_by_steps (λ m digits. AreFrom 33 digits) (λ m h. (omega arith, tt))
      (λ m digits h before. AreFrom-append 33 digits ((48 + m % 10) ∷ []) before (omega arith, tt)) n small;
  some = decimal_nonempty n small;
}

pub AreFrom-last_digits : (k n : ℕ) → AreFrom 33 (last_digits k n)
unfolding last_digits
AreFrom-last_digits zero n = tt
AreFrom-last_digits (suc k) n =
    AreFrom-append 33 (last_digits k (n / 10)) ((48 + n % 10) ∷ []) (AreFrom-last_digits k (n / 10)) (omega arith, tt)

pub IsField-fixed : (u : ℕ) → IsField (fixed u)
IsField-fixed u = record {
  printed = (omega arith, (omega arith, AreFrom-last_digits unit_digits (u % unit)));
  some = omega arith;
}

pub IsField-choice : (choice : Option ℕ) → IsSmall choice → IsField (choice_text choice)
IsField-choice None small = record { printed = (omega arith, tt); some = omega arith }
IsField-choice (Some choice) small = IsField-decimal choice (omega arith)

-- 3. A line has its fields, with a space between them.

unfoldable pub spaced : List ℕ → List (List ℕ) → List ℕ
spaced field [] = field
spaced field (next ∷ fields) = field ++ behind_space (spaced next fields)

abbrev pub AreFields : List (List ℕ) → Type 0
AreFields [] = Unit {0}
AreFields (field ∷ fields) = IsField field × AreFields fields

pub fields_of-spaced : (field : List ℕ) (fields : List (List ℕ)) → IsField field → AreFields fields
    → fields_of (spaced field fields) ≡ field ∷ fields
unfolding spaced
fields_of-spaced field [] is are = fields_of-field field (HasNoBlank-printed field is.printed) is.some
fields_of-spaced field (next ∷ fields) is are =
    fields_of-parted field (spaced next fields) 32 refl
    ∙ ap (λ fs. fs ++ fields_of (spaced next fields))
    (fields_of-field field (HasNoBlank-printed field is.printed) is.some)
    ∙ ap (λ fs. field ∷ fs) (fields_of-spaced next fields are.0 are.1)

AreFrom-spaced : (field : List ℕ) (fields : List (List ℕ)) → IsField field → AreFields fields
    → AreFrom 32 (spaced field fields)
unfolding spaced
AreFrom-spaced field [] is are = AreFrom-weaker field is.printed
AreFrom-spaced field (next ∷ fields) is are =
    AreFrom-append 32 field (behind_space (spaced next fields)) (AreFrom-weaker field is.printed)
    (omega arith, AreFrom-spaced next fields are.0 are.1)

pub lines_of-spaced : (field : List ℕ) (fields : List (List ℕ)) (rest : List ℕ) → IsField field → AreFields fields
    → lines_of (spaced field fields ++ 10 ∷ rest) ≡ spaced field fields ∷ lines_of rest
lines_of-spaced field fields rest is are =
    let printed = AreFrom-spaced field fields is are in
    lines_of-lf (spaced field fields) rest (HasNo-lf (spaced field fields) printed)
    (EndsInNoCr-printed (spaced field fields) printed)
