-- A value that was written is read back.
use Rattle.std.proofs.Common.{◌≡◌, ◌∙◌, ◌≤◌, ◌<◌, ◌+◌, ◌-◌, ◌/◌, ◌%◌, ◌^◌, ℕ, zero, suc, true, false, cond, List}
use Rattle.std.proofs.Common.{[], ◌∷◌, ◌++◌, length, get_or, eqb, Option, Some, None, inl, inr, refl, sym, ap}
use Rattle.std.proofs.Common.{subst, arith, append-nil}
use Rattle.std.specs.Prelude.{codes, decimal, bytes_eq, option_map}
use Rattle.std.proofs.Math.Nat.{one-le-pow}
use Rattle.std.proofs.Math.Seq.{take-append_seam, drop-append_seam}
use Rattle.std.proofs.lemmas.Nat.{div-add-mod', mod_below}
use Rattle.std.proofs.lemmas.Bool.{cases_Bool}
use Rattle.std.proofs.lemmas.Bool.Decides.{nat_tests}
use Rattle.std.proofs.lemmas.List.{length-append}
use Rattle.std.proofs.lemmas.Fmt.{decimal_digit, decimal_by_steps}
use Rattle.std.proofs.lemmas.Slice.Eq.{bytes_eq-Decides}
use Rattle.game_model.specs.Limits.{unit}
use Rattle.text_lines.specs.Text.{number_of, all_digits, value_onto}
use Rattle.text_lines.proofs.NumberLaws.{number_of-decimal}
use Rattle.plan_text.specs.Fixed.{last_digits}
use Rattle.plan_text.proofs.WrittenFields.{IsField, IsField-decimal, AreFrom-append, AreFrom-last_digits}
use Rattle.plan_text.proofs.FieldsReadBack.{length-last_digits, all_digits-last_digits, value_onto-last_digits}
use Rattle.plan_text.proofs.EntriesReadBack.{AreReadBack}
use Rattle.reward_values.specs.Values.{IsValue, number_text, value_text}
use Rattle.reward_values.proofs.Reading.{quotient-fits, number-finite}
use Rattle.reward_text.specs.Values.{plain_number, part_in, units_from, units_in, value_in}

-- 1. A number has no zero in front of another digit.

record BeginsPlain (n : ℕ) (digits : List ℕ) : Type 0 where
  other : 0 < n → eqb (get_or digits 0 0) 48 ≡ false
  some : 0 < length digits

plain-one : (n : ℕ) → n < 10 → BeginsPlain n ((48 + n) ∷ [])
plain-one n small = record { other = λ above. grind (arith, nat_tests, above); some = omega arith }

plain-more : (n : ℕ) (digits : List ℕ) → 10 ≤ n → BeginsPlain (n / 10) digits
    → BeginsPlain n (digits ++ (48 + n % 10) ∷ [])
plain-more n [] large before = absurd (omega (arith, before.some))
plain-more n (b ∷ digits) large before =
    record { other = λ above. before.other (omega (arith, large)); some = omega arith }

begins-plain : (n : ℕ) → n < 2 ^ 64 → BeginsPlain n (decimal n)
begins-plain n small = decimal_by_steps BeginsPlain plain-one plain-more n small

plain-some : (digits : List ℕ) → eqb (get_or digits 0 0) 48 ≡ false → plain_number digits ≡ number_of digits
plain-some [] other = refl
plain-some (b ∷ []) other = refl
plain-some (b ∷ d ∷ digits) other = rw other refl

plain-decimal : (n : ℕ) → n < 2 ^ 64 → plain_number (decimal n) ≡ Some n
plain-decimal zero small = ap plain_number (decimal_digit 0 (omega arith))
plain-decimal (suc n) small =
    plain-some (decimal (suc n)) ((begins-plain (suc n) small).other (omega arith)) ∙ number_of-decimal (suc n) small

-- 2. The part behind the point.

number-digits : (digits : List ℕ) → 0 < length digits → all_digits digits ≡ true
    → number_of digits ≡ Some (value_onto 0 digits)
number-digits [] some all = absurd (omega (arith, some))
number-digits (b ∷ digits) some all = ap (λ v. cond v (Some (value_onto 0 (b ∷ digits))) None) all

part-back : (k n : ℕ) → n < 10 ^ suc k → part_in (46 ∷ last_digits (suc k) n) ≡ Some n
part-back k n small =
    number-digits (last_digits (suc k) n) (omega (arith, length-last_digits (suc k) n))
    (all_digits-last_digits (suc k) n)
    ∙ ap (λ m. Some m) (value_onto-last_digits (suc k) n small)

-- 3. A number of units.

-- the whole part, and what stands behind it
cut : (k : ℕ) (whole digits : List ℕ) → length digits ≡ suc k
    → units_in (suc k) (whole ++ 46 ∷ digits)
    ≡ units_from (10 ^ suc k) (plain_number whole) (part_in (46 ∷ digits))
cut k whole digits many =
    let place : length (whole ++ 46 ∷ digits) - (k + 2) ≡ length whole =
    omega (arith, length-append whole (46 ∷ digits), many) in
    rw (place, take-append_seam whole (46 ∷ digits), drop-append_seam whole (46 ∷ digits)) refl

units-back : (places u : ℕ) → u ≤ unit → units_in places (number_text places u) ≡ Some u
units-back zero u small =
    let whole : u / 1 ≡ u = omega arith in
    ap plain_number (append-nil (decimal (u / 1)) ∙ ap decimal whole) ∙ plain-decimal u (omega (arith, small))
units-back (suc k) u small =
    let p : ℕ = 10 ^ suc k in
    let some : 1 ≤ p = one-le-pow (suc k) 10 (omega arith) in
    cut k (decimal (u / p)) (last_digits (suc k) (u % p)) (length-last_digits (suc k) (u % p))
    ∙ ap (λ w. units_from p w (part_in (46 ∷ last_digits (suc k) (u % p))))
    (plain-decimal (u / p) (quotient-fits u p some small))
    ∙ ap (λ r. units_from p (Some (u / p)) r) (part-back k (u % p) (mod_below u p some))
    ∙ ap (λ v. Some v) (div-add-mod' u p)

value-back : (places : ℕ) (value : Option ℕ) → IsValue value → value_in places (value_text places value) ≡ Some value
value-back places None is = refl
value-back places (Some u) is = elim (cases_Bool (bytes_eq (number_text places u) (codes "infinite"))) [
  | inl e ↦
      let word : number_text places u ≡ codes "infinite" =
      (bytes_eq-Decides (number_text places u) (codes "infinite")).0 e in
      absurd (number-finite places u (codes "nfinite") is word)
  | inr e ↦ ap (λ v. cond v (Some None) (option_map Some (units_in places (number_text places u)))) e
      ∙ ap (λ number. option_map Some number) (units-back places u is)
]

-- 4. The text of a value is a field.

number-field : (places u : ℕ) → u ≤ unit → IsField (number_text places u)
number-field zero u small = subst IsField (sym (append-nil (decimal (u / 1)))) (IsField-decimal (u / 1) (omega arith))
number-field (suc k) u small =
    let p : ℕ = 10 ^ suc k in
    let some : 1 ≤ p = one-le-pow (suc k) 10 (omega arith) in
    let whole = IsField-decimal (u / p) (quotient-fits u p some small) in
    record {
      printed = AreFrom-append 33 (decimal (u / p)) (46 ∷ last_digits (suc k) (u % p)) whole.printed
          (omega arith, AreFrom-last_digits (suc k) (u % p));
      some = omega (arith, whole.some, length-append (decimal (u / p)) (46 ∷ last_digits (suc k) (u % p)));
    }

IsField-infinite : IsField (codes "infinite")
IsField-infinite = record { printed = search arith; some = omega arith }

value-field : (places : ℕ) (value : Option ℕ) → IsValue value → IsField (value_text places value)
value-field places None is = IsField-infinite
value-field places (Some u) is = number-field places u is

pub values : (places : ℕ) → AreReadBack (Option ℕ) (value_text places) (value_in places) IsValue
values places = record { field = value-field places; back = value-back places }
