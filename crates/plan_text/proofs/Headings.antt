-- The first line of a certificate.
use Rattle.std.proofs.Common.{◌≡◌, ◌∙◌, ℕ, Bool, true, false, cond, List, [], ◌∷◌, Option, Some, None, Ok, Err, refl}
use Rattle.std.proofs.Common.{ap, subst, eqb, bytes_eq}
use Rattle.std.specs.Prelude.{codes}
use Rattle.std.proofs.lemmas.Bool.{eqb-true, eq-eqb}
use Rattle.std.proofs.lemmas.Slice.Eq.{bytes_eq-Decides}
use Rattle.text_lines.specs.Text.{fields_of, number_of}
use Rattle.plan_text.specs.declared.fault.PlanCause.TheVariants.{StateCount}
use Rattle.plan_text.specs.declared.version.Version.{Version}
use Rattle.plan_text.specs.declared.version.Version.TheVariants.{One, Two}
use Rattle.plan_text.specs.Said.{counted, heading_said, header_said, is_heading}
use Rattle.plan_text.specs.Versions.{version_in, version_text}
use Rattle.plan_text.specs.Certificate.{IsFirstLine}

states_one : (n states : ℕ) (named version : Version) → cond (eqb n states) (Ok named) (Err StateCount) ≡ Ok version
    → (named ≡ version) × (n ≡ states)
states_one n states named version said = by (eqb n states) refl said
  where
    by : (v : Bool) → eqb n states ≡ v → cond v (Ok named) (Err StateCount) ≡ Ok version
        → (named ≡ version) × (n ≡ states)
    by false other same = cc
    by true one same = (cc, eqb-true n states one)

version_in-one : (name : List ℕ) (version : Version) → version_in name ≡ Some version → name ≡ version_text version
version_in-one name version said = by (bytes_eq name (codes "1")) refl (bytes_eq name (codes "2")) refl said
  where
    by : (v : Bool) → bytes_eq name (codes "1") ≡ v → (w : Bool) → bytes_eq name (codes "2") ≡ w
        → cond v (Some One) (cond w (Some Two) None) ≡ Some version → name ≡ version_text version
    by true one w two same =
        let is : One ≡ version = cc in
        subst (λ v. name ≡ version_text v) is ((bytes_eq-Decides name (codes "1")).0 one)
    by false one true two same =
        let is : Two ≡ version = cc in
        subst (λ v. name ≡ version_text v) is ((bytes_eq-Decides name (codes "2")).0 two)
    by false one false two same = cc

version_in-told : (version : Version) → version_in (version_text version) ≡ Some version
version_in-told One = refl
version_in-told Two = refl

counted-one : (states n : ℕ) (named : Option Version) (version : Version) → counted states n named ≡ Ok version
    → (named ≡ Some version) × (n ≡ states)
counted-one states n None version said = cc
counted-one states n (Some named) version said =
    let parts = states_one n states named version said in
    (ap (λ v. Some v) parts.0, parts.1)

heading_said-one : (states : ℕ) (name : List ℕ) (count : Option ℕ) (version : Version)
    → heading_said states name count ≡ Ok version → (name ≡ version_text version) × (count ≡ Some states)
heading_said-one states name None version said = cc
heading_said-one states name (Some n) version said =
    let parts = counted-one states n (version_in name) version said in
    (version_in-one name version parts.0, ap (λ k. Some k) parts.1)

pub header_said-one : (states : ℕ) (line : List ℕ) (version : Version) → is_heading (fields_of line) ≡ true
    → header_said states (fields_of line) ≡ Ok version → IsFirstLine version states line
header_said-one states line version named said = by (fields_of line) refl named said
  where
    by : (fields : List (List ℕ)) → fields_of line ≡ fields → is_heading fields ≡ true
        → header_said states fields ≡ Ok version → IsFirstLine version states line
    by [] is head good = cc
    by (word ∷ []) is head good = cc
    by (word ∷ name ∷ []) is head good = cc
    by (word ∷ name ∷ count ∷ field ∷ fields) is head good = cc
    by (word ∷ name ∷ count ∷ []) is head good =
        let told = heading_said-one states name (number_of count) version good in
        let first : word ≡ codes "certificate" = (bytes_eq-Decides word (codes "certificate")).0 head in
        record {
          count = count;
          fields = is ∙ ap (λ w. w ∷ name ∷ count ∷ []) first ∙ ap (λ v. codes "certificate" ∷ v ∷ count ∷ []) told.0;
          spelled = told.1;
        }

pub header_said-told : (version : Version) (states : ℕ) (line : List ℕ) → IsFirstLine version states line
    → (is_heading (fields_of line) ≡ true) × (header_said states (fields_of line) ≡ Ok version)
header_said-told version states line is =
    let same : eqb states states ≡ true = eq-eqb states states refl in (
      ap (λ fields. is_heading fields) is.fields,
      ap (λ fields. header_said states fields) is.fields
          ∙ ap (λ count. heading_said states (version_text version) count) is.spelled
          ∙ ap (λ named. counted states states named) (version_in-told version)
          ∙ ap (λ v. cond v (Ok version) (Err StateCount)) same,
    )
