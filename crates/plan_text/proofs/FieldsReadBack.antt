-- What is written in a field is read back.
use Rattle.std.proofs.Common.{◌≡◌, ◌∙◌, ◌≤◌, ◌<◌, ◌+◌, ◌-◌, ◌*◌, ◌/◌, ◌%◌, ◌^◌, ℕ, zero, suc, List, [], ◌∷◌, ◌++◌}
use Rattle.std.proofs.Common.{length, Option, None, Some, true, cond, inl, inr, refl, ap, sym, arith}
use Rattle.std.specs.Prelude.{codes, decimal, bytes_eq, option_map}
use Rattle.std.proofs.Math.Nat.{pow-suc}
use Rattle.std.proofs.lemmas.Bool.{cases_Bool}
use Rattle.std.proofs.lemmas.Bool.Decides.{nat_tests}
use Rattle.std.proofs.lemmas.List.{length-append}
use Rattle.std.proofs.lemmas.Slice.Eq.{bytes_eq-Decides}
use Rattle.game_model.specs.Limits.{unit}
use Rattle.text_lines.specs.Text.{number_of, is_digit, all_digits, value_onto}
use Rattle.text_lines.proofs.NumberLaws.{number_of-decimal}
use Rattle.plan_text.specs.declared.version.Version.TheVariants.{Two}
use Rattle.plan_text.specs.Fixed.{fixed, last_digits, unit_digits}
use Rattle.plan_text.specs.Entries.{IsSmall}
use Rattle.plan_text.specs.Written.{choice_text}
use Rattle.plan_text.specs.Said.{units_of, choice_in}

-- 1. Values.

pub length-last_digits : (k n : ℕ) → length (last_digits k n) ≡ k
unfolding last_digits
length-last_digits zero n = refl
length-last_digits (suc k) n =
    omega (arith, length-append (last_digits k (n / 10)) ((48 + n % 10) ∷ []), length-last_digits k (n / 10))

pub all_digits-snoc : (digits : List ℕ) (n : ℕ) → all_digits digits ≡ true
    → all_digits (digits ++ (48 + n % 10) ∷ []) ≡ true
all_digits-snoc [] n all = grind (arith, nat_tests)
all_digits-snoc (b ∷ digits) n all = grind (arith, nat_tests, all_digits-snoc digits n)

pub all_digits-last_digits : (k n : ℕ) → all_digits (last_digits k n) ≡ true
unfolding last_digits
all_digits-last_digits zero n = refl
all_digits-last_digits (suc k) n = all_digits-snoc (last_digits k (n / 10)) n (all_digits-last_digits k (n / 10))

pub value_onto-snoc : (m : ℕ) (digits : List ℕ) (b : ℕ)
    → value_onto m (digits ++ b ∷ []) ≡ 10 * value_onto m digits + (b - 48)
value_onto-snoc m [] b = refl
value_onto-snoc m (c ∷ digits) b = value_onto-snoc (10 * m + (c - 48)) digits b

pub value_onto-last_digits : (k n : ℕ) → n < 10 ^ k → value_onto 0 (last_digits k n) ≡ n
unfolding last_digits
value_onto-last_digits zero n small = omega (arith, small)
value_onto-last_digits (suc k) n small =
    let power : 10 ^ suc k ≡ 10 ^ k * 10 = pow-suc 10 k in
    omega (
      arith,
      value_onto-snoc 0 (last_digits k (n / 10)) (48 + n % 10),
      value_onto-last_digits k (n / 10) (omega (arith, power)),
    )

units_of-spelled : (whole : ℕ) (digits : List ℕ) → is_digit whole ≡ true
    → length digits ≡ unit_digits → all_digits digits ≡ true
    → units_of Two (whole ∷ 46 ∷ digits) ≡ Some ((whole - 48) * unit + value_onto 0 digits * 1)
units_of-spelled whole digits digit many all = rw (digit, many, all) refl

pub units_of-fixed : (u : ℕ) → u ≤ unit → units_of Two (fixed u) ≡ Some u
units_of-fixed u small =
    let digits = last_digits unit_digits (u % unit) in
    units_of-spelled (48 + u / unit) digits (grind (arith, nat_tests)) (length-last_digits unit_digits (u % unit))
    (all_digits-last_digits unit_digits (u % unit))
    ∙ ap (λ v. Some v) (omega (arith, value_onto-last_digits unit_digits (u % unit) (omega arith)))

-- 2. Choices.

choice_in-number : (field : List ℕ) (n : ℕ) → number_of field ≡ Some n → choice_in field ≡ Some (Some n)
choice_in-number field n said = elim (cases_Bool (bytes_eq field (codes "-"))) [
  | inl e ↦
      let dash : field ≡ codes "-" = (bytes_eq-Decides field (codes "-")).0 e in
      let none : ◌≡◌ {A = Option ℕ} None (Some n) = sym (ap number_of dash) ∙ said in
      absurd (cc)
  | inr e ↦ ap (λ v. cond v (Some None) (option_map Some (number_of field))) e
      ∙ ap (λ number. option_map Some number) said
]

pub choice_in-choice_text : (choice : Option ℕ) → IsSmall choice → choice_in (choice_text choice) ≡ Some choice
choice_in-choice_text None small = refl
choice_in-choice_text (Some choice) small =
    choice_in-number (decimal choice) choice (number_of-decimal choice (omega arith))
