-- A value of the first version, and the same with three zeros more.
use Rattle.std.proofs.Common.{◌≡◌, ◌+◌, ◌-◌, ◌*◌, ℕ, Bool, true, false, cond, List, [], ◌∷◌, ◌++◌, length, Some, None}
use Rattle.std.proofs.Common.{refl, ap, arith, eqb, eq-eqb, ◌&&◌}
use Rattle.std.specs.Prelude.{codes}
use Rattle.std.proofs.lemmas.Bool.{eqb-true}
use Rattle.std.proofs.lemmas.Bool.Decides.{nat_tests}
use Rattle.std.proofs.lemmas.List.{length-append}
use Rattle.game_model.specs.Limits.{unit}
use Rattle.text_lines.specs.Text.{is_digit, all_digits, value_onto}
use Rattle.plan_text.specs.declared.version.Version.TheVariants.{One, Two}
use Rattle.plan_text.specs.Said.{units_of}

all_digits-zeros : (digits : List ℕ) → all_digits digits ≡ true → all_digits (digits ++ codes "000") ≡ true
all_digits-zeros [] all = refl
all_digits-zeros (b ∷ digits) all = grind (arith, nat_tests, all_digits-zeros digits)

value_onto-zeros : (m : ℕ) (digits : List ℕ) → value_onto m (digits ++ codes "000") ≡ 1000 * value_onto m digits
value_onto-zeros m [] = omega arith
value_onto-zeros m (b ∷ digits) = value_onto-zeros (10 * m + (b - 48)) digits

four : (a b c d : Bool) → (a && b && c && d) ≡ true → (a ≡ true) × (b ≡ true) × (c ≡ true) × (d ≡ true)
four a b c d all = grind (arith, nat_tests)

pub three_zeros_more : (field : List ℕ) (u : ℕ) → units_of One field ≡ Some u
    → units_of Two (field ++ codes "000") ≡ Some u
three_zeros_more [] u said = cc
three_zeros_more (whole ∷ []) u said = cc
three_zeros_more (whole ∷ point ∷ digits) u said =
    by (is_digit whole && eqb point 46 && eqb (length digits) 12 && all_digits digits) refl said
  where
    by : (v : Bool) → (is_digit whole && eqb point 46 && eqb (length digits) 12 && all_digits digits) ≡ v
        → cond v (Some ((whole - 48) * unit + value_onto 0 digits * 1000)) None ≡ Some u
        → units_of Two (whole ∷ point ∷ (digits ++ codes "000")) ≡ Some u
    by false not same = cc
    by true all same =
        let parts = four (is_digit whole) (eqb point 46) (eqb (length digits) 12) (all_digits digits) all in
        let many : length (digits ++ codes "000") ≡ 15 =
        omega (arith, length-append digits (codes "000"), eqb-true (length digits) 12 parts.2) in
        let as_many : eqb (length (digits ++ codes "000")) 15 ≡ true =
        eq-eqb (length (digits ++ codes "000")) 15 many in
        let is : (whole - 48) * unit + value_onto 0 digits * 1000 ≡ u = cc in
        simp (parts.0, parts.1, as_many, all_digits-zeros digits parts.3)
        (ap (λ n. Some n) (omega (arith, is, value_onto-zeros 0 digits)))
