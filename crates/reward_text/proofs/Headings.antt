-- The first line of a certificate of rewards.
use Rattle.std.proofs.Common.{◌≡◌, ◌∙◌, ◌≤◌, ℕ, Bool, true, false, cond, List, [], ◌∷◌, Option, Some, None, Ok, Err}
use Rattle.std.proofs.Common.{refl}
use Rattle.std.proofs.Common.{ap, subst, eqb, leb, le-leb, bytes_eq}
use Rattle.std.specs.Prelude.{codes}
use Rattle.std.proofs.lemmas.Bool.{eqb-true, eq-eqb, leb-true}
use Rattle.std.proofs.lemmas.Slice.Eq.{bytes_eq-Decides}
use Rattle.text_lines.specs.Text.{fields_of, number_of}
use Rattle.plan_text.specs.declared.fault.PlanCause.TheVariants.{StateCount, Places}
use Rattle.plan_text.specs.declared.fault.PlanCause.TheVariants as cause
use Rattle.plan_text.specs.Fixed.{unit_digits}
use Rattle.plan_text.specs.Said.{begins_with}
use Rattle.reward_text.specs.Said.{counted_places, numbers_said, reward_header_said}
use Rattle.reward_text.specs.Certificate.{IsRewardHeading}

counted-one : (states places count said_places : ℕ) → counted_places states places count ≡ Ok said_places
    → (places ≡ said_places) × (places ≤ unit_digits) × (count ≡ states)
counted-one states places count said_places said =
    by (leb places unit_digits) refl (eqb count states) refl said
  where
    by : (v : Bool) → leb places unit_digits ≡ v → (w : Bool) → eqb count states ≡ w
        → cond v (cond w (Ok places) (Err StateCount)) (Err Places) ≡ Ok said_places
        → (places ≡ said_places) × (places ≤ unit_digits) × (count ≡ states)
    by false many w counted same = cc
    by true few false other same = cc
    by true few true counted same = (cc, leb-true places unit_digits few, eqb-true count states counted)

numbers-one : (states : ℕ) (version : List ℕ) (places count : Option ℕ) (said_places : ℕ)
    → numbers_said states version places count ≡ Ok said_places
    → (version ≡ codes "1") × (places ≡ Some said_places) × (said_places ≤ unit_digits) × (count ≡ Some states)
numbers-one states version None None said_places said = cc
numbers-one states version None (Some count) said_places said = cc
numbers-one states version (Some places) None said_places said = cc
numbers-one states version (Some places) (Some count) said_places said =
    by (bytes_eq version (codes "1")) refl said
  where
    by : (v : Bool) → bytes_eq version (codes "1") ≡ v
        → cond v (counted_places states places count) (Err cause.Version) ≡ Ok said_places
        → (version ≡ codes "1") × (Some places ≡ Some said_places) × (said_places ≤ unit_digits)
        × (Some count ≡ Some states)
    by false other same = cc
    by true one same =
        let parts = counted-one states places count said_places same in (
          (bytes_eq-Decides version (codes "1")).0 one,
          ap (λ p. Some p) parts.0,
          subst (λ p. p ≤ unit_digits) parts.0 parts.1,
          ap (λ n. Some n) parts.2,
        )

pub header-one : (states places : ℕ) (line : List ℕ) → begins_with (codes "rewards") (fields_of line) ≡ true
    → reward_header_said states (fields_of line) ≡ Ok places → IsRewardHeading places states line
header-one states places line named said = by (fields_of line) refl named said
  where
    by : (fields : List (List ℕ)) → fields_of line ≡ fields → begins_with (codes "rewards") fields ≡ true
        → reward_header_said states fields ≡ Ok places → IsRewardHeading places states line
    by [] is head good = cc
    by (word ∷ []) is head good = cc
    by (word ∷ version ∷ []) is head good = cc
    by (word ∷ version ∷ digits ∷ []) is head good = cc
    by (word ∷ version ∷ digits ∷ count ∷ field ∷ fields) is head good = cc
    by (word ∷ version ∷ digits ∷ count ∷ []) is head good =
        let told = numbers-one states version (number_of digits) (number_of count) places good in
        let first : word ≡ codes "rewards" = (bytes_eq-Decides word (codes "rewards")).0 head in
        record {
          digits = digits;
          count = count;
          fields = is ∙ ap (λ w. w ∷ version ∷ digits ∷ count ∷ []) first
              ∙ ap (λ v. codes "rewards" ∷ v ∷ digits ∷ count ∷ []) told.0;
          spelled = told.1;
          few = told.2;
          counted = told.3;
        }

pub numbers-told : (states places : ℕ) → places ≤ unit_digits
    → numbers_said states (codes "1") (Some places) (Some states) ≡ Ok places
numbers-told states places few =
    ap (λ v. cond v (cond (eqb states states) (Ok places) (Err StateCount)) (Err Places))
    (le-leb places unit_digits few)
    ∙ ap (λ v. cond v (Ok places) (Err StateCount)) (eq-eqb states states refl)

pub header-told : (states places : ℕ) (line : List ℕ) → IsRewardHeading places states line
    → (begins_with (codes "rewards") (fields_of line) ≡ true)
    × (reward_header_said states (fields_of line) ≡ Ok places)
header-told states places line is = (
  ap (λ fields. begins_with (codes "rewards") fields) is.fields,
  ap (λ fields. reward_header_said states fields) is.fields
      ∙ ap (λ n. numbers_said states (codes "1") n (number_of is.count)) is.spelled
      ∙ ap (λ n. numbers_said states (codes "1") (Some places) n) is.counted
      ∙ numbers-told states places is.few,
)
