-- A value that is read: a digit, a point and the decimals of its version.
use Rattle.std.proofs.Common.{◌≡◌, ◌<◌, ◌≤◌, ◌+◌, ◌-◌, ◌*◌, ◌^◌, ℕ, Bool, true, false, cond, List, [], ◌∷◌, length}
use Rattle.std.proofs.Common.{get_or, take, drop, Some, None, refl, arith, rules, eqb, eq-eqb}
use Rattle.std.specs.Option.{option_map}
use Rattle.std.proofs.lemmas.List.{take_rest}
use Rattle.std.proofs.lemmas.Str.Parse.{IsNumeralModel, numerals_by_fold, digits_value_short}
use Rattle.game_model.specs.Limits.{unit}
use Rattle.text_lines.specs.Text.{all_digits, is_digit, value_onto, number_of, saturated}
use Rattle.plan_text.specs.declared.version.Version.{Version}
use Rattle.plan_text.specs.declared.version.Version.TheVariants.{One, Two}
use Rattle.plan_text.specs.Versions.{decimals_of, units_of_last_digit}
use Rattle.plan_text.specs.Said.{units_of}

own : IsNumeralModel (λ ds. all_digits ds ≡ true) (value_onto 0)
own = numerals_by_fold _ (search rules) value_onto (search rules)

-- so many digits spell a number of so many digits, which 64 bits hold
number_of-digits : (k : ℕ) (digits : List ℕ) (n : ℕ) → 0 < k → 10 ^ k < 2 ^ 64
    → length digits ≡ k → Some n ≡ option_map saturated (number_of digits)
    → (n < 10 ^ k) × (all_digits digits ≡ true) × (value_onto 0 digits ≡ n)
number_of-digits k [] n some room many read = absurd (omega arith)
number_of-digits k (d ∷ digits) n some room many read = by (all_digits (d ∷ digits)) refl read
  where
    by : (v : Bool) → all_digits (d ∷ digits) ≡ v
        → Some n ≡ option_map saturated (cond v (Some (value_onto 0 (d ∷ digits))) None)
        → (n < 10 ^ k) × (all_digits (d ∷ digits) ≡ true) × (value_onto 0 (d ∷ digits) ≡ n)
    by false all read = cc
    by true all read =
        let small = digits_value_short own (d ∷ digits) k all (omega arith) in
        let same : n ≡ saturated (value_onto 0 (d ∷ digits)) = cc in
        (omega arith, all, omega arith)

-- the decimals of a version spell less than the unit
pub number_of-decimals : (version : Version) (digits : List ℕ) (n : ℕ)
    → length digits ≡ decimals_of version → Some n ≡ option_map saturated (number_of digits)
    → (n * units_of_last_digit version < unit) × (all_digits digits ≡ true) × (value_onto 0 digits ≡ n)
number_of-decimals One digits n many read =
    let parts = number_of-digits 12 digits n (omega arith) (omega arith) many read in
    (omega (arith, parts.0), parts.1, parts.2)
number_of-decimals Two digits n many read =
    let parts = number_of-digits 15 digits n (omega arith) (omega arith) many read in
    (omega (arith, parts.0), parts.1, parts.2)

-- the value that a field spells
pub units_of-read : (version : Version) (field : List ℕ) (n : ℕ) → 2 ≤ length field → is_digit (get_or field 0 0) ≡ true
    → get_or field 1 0 ≡ 46 → length (take (length field - 2) (drop 2 field)) ≡ decimals_of version
    → Some n ≡ option_map saturated (number_of (take (length field - 2) (drop 2 field)))
    → Some ((get_or field 0 0 - 48) * unit + n * units_of_last_digit version) ≡ units_of version field
units_of-read version [] n long whole point many read = absurd (omega arith)
units_of-read version (w ∷ []) n long whole point many read = absurd (omega arith)
units_of-read version (w ∷ p ∷ digits) n long whole point many read =
    let all_left = take_rest (w ∷ p ∷ digits) 2 in
    let size : length digits ≡ decimals_of version = rw all_left at many in
    let spelled = number_of-decimals version digits n size (rw all_left at read) in
    let point_is : eqb p 46 ≡ true = eq-eqb p 46 point in
    let size_is : eqb (length digits) (decimals_of version) ≡ true =
    eq-eqb (length digits) (decimals_of version) size in
    let all : all_digits digits ≡ true = spelled.1 in
    let value : value_onto 0 digits ≡ n = spelled.2 in
    simp (whole, point_is, size_is, all, value)
