-- The header by cases is the header that the relation describes.
use Rattle.std.proofs.Common.{◌≡◌, ◌≢◌, ◌<◌, ◌≤◌, ◌+◌, inl, inr, ℕ, Bool, true, false, cond, List, [], ◌∷◌, ◌++◌}
use Rattle.std.proofs.Common.{length, Option, Some, None, Ok, Err, Result, sym, ap, ◌∙◌, refl, subst, arith, eqb, ltb}
use Rattle.std.proofs.Common.{leb, is_some, bytes_eq, ◌||◌, append_assoc}
use Rattle.std.proofs.lemmas.Bool.{and_parts, or_parts, eqb-false, ne_eqb, cases_Bool}
use Rattle.std.specs.Option.{option_map}
use Rattle.std.proofs.lemmas.Bool.Decides.{nat_tests}
use Rattle.std.proofs.lemmas.List.{append-nil, length-append}
use Rattle.std.proofs.lemmas.Slice.Eq.{bytes_eq-Decides}
use Rattle.text_lines.specs.Text.{fields_of, number_of, all_digits, is_digit, value_onto}
use Rattle.text_lines.specs.Laws.{HasNo}
use Rattle.label_lines.specs.declared.kind.FileKind.{FileKind}
use Rattle.label_lines.specs.declared.faults.LabCause.{LabCause}
use Rattle.label_lines.specs.Limits.{greatest_index}
use Rattle.label_lines.specs.Header.{Item, quoted, is_name, item_named, item_parts, item_of, most_items}
use Rattle.text_lines.specs.Parts.{split_first}
use Rattle.label_lines.specs.Header.{place_of, has_index, has_name, with_item, and_then, items_from, header_of}
use Rattle.label_lines.specs.Denotes.{IsItem, AreItems, IsNew, AreApart, IsHeader}
use Rattle.label_lines.proofs.Indexed.{none_behind}
use Rattle.label_lines.proofs.HeaderSteps.{is_added, has_index-none}
use Rattle.label_lines.proofs.Heads.{with_item-added}
use Rattle.label_lines.proofs.Splits.{split_first-found, split_first-again, quoted-found, quoted-again}

-- one item
some_is : {X : Type 0} (a b : X) → Some a ≡ Some b → a ≡ b
some_is a b h = cc

abbrev okay : List Item → Result (List Item) LabCause
okay items = Ok items

ok_is : (a b : List Item) → okay a ≡ okay b → a ≡ b
ok_is a b h = cc

abbrev named : ℕ → List ℕ → Item
named index name = record { index = index; name = name }

item_named-by : (kind : FileKind) (field digits rest : List ℕ) (item : Item) (index : Option ℕ) (name : Option (List ℕ))
    → split_first 61 field ≡ Some (digits, rest) → index ≡ number_of digits → name ≡ quoted rest
    → item_named kind index name ≡ Some item → item.index ≤ greatest_index → IsItem kind field item
item_named-by kind field digits rest item None name split i q h small = cc
item_named-by kind field digits rest item (Some index) None split i q h small = cc
item_named-by kind field digits rest item (Some index) (Some name) split i q h small = by (is_name kind name) refl h
  where
    by : (v : Bool) → v ≡ is_name kind name → cond v (Some (named index name)) None ≡ Some item → IsItem kind field item
    by false e g = cc
    by true e g =
        let same : named index name ≡ item = some_is _ _ g in
        let name_is : name ≡ item.name = ap (λ (x : Item). x.name) same in
        record {
          digits = digits;
          form = (split_first-found 61 field digits rest split).form
              ∙ ap (λ t. digits ++ 61 ∷ t) (quoted-found rest name (sym q))
              ∙ ap (λ t. digits ++ 61 ∷ 34 ∷ (t ++ 34 ∷ [])) name_is;
          index = sym i ∙ ap (λ k. Some k) (ap (λ (x : Item). x.index) same);
          name = ap (λ t. is_name kind t) (sym name_is) ∙ sym e;
          small = small;
        }

item_by : (kind : FileKind) (field : List ℕ) (item : Item) (parts : Option (List ℕ × List ℕ))
    → parts ≡ split_first 61 field → item_parts kind parts ≡ Some item → item.index ≤ greatest_index
    → IsItem kind field item
item_by kind field item None e h small = cc
item_by kind field item (Some parts) e h small =
    item_named-by kind field parts.0 parts.1 item (number_of parts.0) (quoted parts.1) (sym e) refl refl h small

pub item_of-found : (kind : FileKind) (field : List ℕ) (item : Item) → item_of kind field ≡ Some item
    → item.index ≤ greatest_index → IsItem kind field item
item_of-found kind field item h small = item_by kind field item (split_first 61 field) refl h small

are_digits : (field : List ℕ) (n : ℕ) → number_of field ≡ Some n → all_digits field ≡ true
are_digits [] n h = cc
are_digits (b ∷ bytes) n h = by (all_digits (b ∷ bytes)) refl h
  where
    by : (v : Bool) → v ≡ all_digits (b ∷ bytes) → cond v (Some (value_onto 0 (b ∷ bytes))) None ≡ Some n
        → all_digits (b ∷ bytes) ≡ true
    by true e g = sym e
    by false e g = cc

no_equals : (field : List ℕ) → all_digits field ≡ true → HasNo 61 field
no_equals [] h = tt
no_equals (b ∷ bytes) h =
    let parts = and_parts (is_digit b) (all_digits bytes) h in
    (below b parts.0, no_equals bytes parts.1)
  where
    below : (b : ℕ) → is_digit b ≡ true → b ≢ 61
    below b h = grind (arith, nat_tests)

pub item_of-again : (kind : FileKind) (field : List ℕ) (item : Item) → IsItem kind field item
    → item_of kind field ≡ Some item
item_of-again kind field item is =
    ap (λ t. item_parts kind (split_first 61 t)) is.form
    ∙ ap (λ p. item_parts kind p) (split_first-again 61 is.digits (34 ∷ (item.name ++ 34 ∷ []))
    (no_equals is.digits (are_digits is.digits item.index is.index)))
    ∙ ap (λ i. item_named kind i (quoted (34 ∷ (item.name ++ 34 ∷ [])))) is.index
    ∙ ap (λ q. item_named kind (Some item.index) q) (quoted-again item.name)
    ∙ ap (λ v. cond v (Some item) None) is.name

other_name : (a b : List ℕ) → bytes_eq a b ≡ false → b ≢ a
other_name a b h = λ e. let true_is = (bytes_eq-Decides a b).1 (sym e) in cc

no_name : (a b : List ℕ) → b ≢ a → bytes_eq a b ≡ false
no_name a b apart = elim (cases_Bool (bytes_eq a b)) [
  | inl h ↦ absurd (apart (sym ((bytes_eq-Decides a b).0 h)))
  | inr h ↦ h
]

IsNew-push : (first : Item) (items : List Item) (item : Item) → IsNew first items → first.index ≢ item.index
    → first.name ≢ item.name → IsNew first (items ++ item ∷ [])
IsNew-push first [] item new index name = (index, name, tt)
IsNew-push first (other ∷ items) item new index name = (new.0, new.1, IsNew-push first items item new.2 index name)

AreApart-push : (before : List Item) (item : Item) → AreApart before → place_of before item.index ≡ None
    → has_name before item.name ≡ false → AreApart (before ++ item ∷ [])
AreApart-push [] item apart index name = (tt, tt)
AreApart-push (first ∷ before) item apart index name =
    let i = none_behind (eqb first.index item.index) (place_of before item.index) index in
    let m = or_parts (bytes_eq item.name first.name) (has_name before item.name) name in (
      IsNew-push first before item apart.0 (eqb-false first.index item.index i.0) (other_name item.name first.name m.0),
      AreApart-push before item apart.1 i.1 m.1,
    )

IsNew-at : (first : Item) (before : List Item) (item : Item) (rest : List Item) → IsNew first (before ++ item ∷ rest)
    → (first.index ≢ item.index) × (first.name ≢ item.name)
IsNew-at first [] item rest new = (new.0, new.1)
IsNew-at first (other ∷ before) item rest new = IsNew-at first before item rest new.2

AreApart-at : (before : List Item) (item : Item) (rest : List Item) → AreApart (before ++ item ∷ rest)
    → (has_index before item.index ≡ false) × (has_name before item.name ≡ false)
AreApart-at [] item rest apart = (refl, refl)
AreApart-at (first ∷ before) item rest apart =
    let new = IsNew-at first before item rest apart.0 in
    let behind = AreApart-at before item rest apart.1 in (
      ap (λ v. is_some (cond v (Some 0) (option_map (λ k. k + 1) (place_of before item.index))))
          (ne_eqb first.index item.index new.0) ∙ maps (place_of before item.index) behind.0,
      ap (λ v. v || has_name before item.name) (no_name item.name first.name new.1) ∙ behind.1,
    )
  where
    maps : (p : Option ℕ) → is_some p ≡ false → is_some (option_map (λ k. k + 1) p) ≡ false
    maps None h = refl
    maps (Some k) h = cc

-- items in turn
pub record AreFound (kind : FileKind) (before : List Item) (fields : List (List ℕ)) (items : List Item) : Type 0 where
  pub new : List Item
  pub is : items ≡ before ++ new
  pub spelled : AreItems kind fields new
  pub apart : AreApart items
  pub few : length items ≤ most_items kind

room : (most n index : ℕ) → (leb most n || ltb greatest_index index) ≡ false → (n < most) × (index ≤ greatest_index)
room most n index h = (grind (arith, nat_tests), grind (arith, nat_tests))

fits : (most n index : ℕ) → n < most → index ≤ greatest_index → (leb most n || ltb greatest_index index) ≡ false
fits most n index h small = grind (arith, nat_tests)

found_by : (kind : FileKind) (before : List Item) (field : List ℕ) (fields : List (List ℕ)) (items : List Item)
    (r : Result (List Item) LabCause) → ((more : List Item) → AreApart more → length more ≤ most_items kind
    → items_from kind more fields ≡ Ok items → AreFound kind more fields items) → AreApart before
    → r ≡ with_item kind before (item_of kind field) → and_then r (λ more. items_from kind more fields) ≡ Ok items
    → AreFound kind before (field ∷ fields) items
found_by kind before field fields items (Err cause) rest apart e g = cc
found_by kind before field fields items (Ok more) rest apart e g =
    let added = with_item-added kind before (item_of kind field) more (sym e) in
    let limit = room (most_items kind) (length before) added.item.index added.limit in
    let P : List Item → Type 0 = λ ms. AreApart ms in
    let behind = rest more (subst P (sym added.more_is)
    (AreApart-push before added.item apart (has_index-none before added.item.index added.index) added.name))
    (omega (arith, ap (λ (t : List Item). length t) added.more_is, length-append before (added.item ∷ []), limit.0))
    g in
    record {
      new = added.item ∷ behind.new;
      is = behind.is ∙ ap (λ (t : List Item). t ++ behind.new) added.more_is
          ∙ append_assoc before (added.item ∷ []) behind.new;
      spelled = (item_of-found kind field added.item added.is limit.1, behind.spelled);
      apart = behind.apart;
      few = behind.few;
    }

pub items_from-found : (kind : FileKind) (before : List Item) (fields : List (List ℕ)) (items : List Item)
    → AreApart before → length before ≤ most_items kind → items_from kind before fields ≡ Ok items
    → AreFound kind before fields items
items_from-found kind before [] items apart few h =
    let same : before ≡ items = ok_is before items h in
    let P : List Item → Type 0 = λ is. AreApart is in
    record {
      new = [];
      is = sym same ∙ sym (append-nil before);
      spelled = tt;
      apart = subst P same apart;
      few = omega (arith, few, ap (λ (t : List Item). length t) same);
    }
items_from-found kind before (field ∷ fields) items apart few h =
    found_by kind before field fields items (with_item kind before (item_of kind field))
    (λ more a f g. items_from-found kind more fields items a f g) apart refl h

pub items_from-again : (kind : FileKind) (before : List Item) (fields : List (List ℕ)) (new : List Item)
    → AreItems kind fields new → AreApart (before ++ new) → length (before ++ new) ≤ most_items kind
    → items_from kind before fields ≡ Ok (before ++ new)
items_from-again kind before [] [] spelled apart few = ap (λ (t : List Item). Ok t) (sym (append-nil before))
items_from-again kind before [] (item ∷ new) spelled apart few = absurd spelled
items_from-again kind before (field ∷ fields) [] spelled apart few = absurd spelled
items_from-again kind before (field ∷ fields) (item ∷ new) spelled apart few =
    let at = AreApart-at before item new apart in
    let limit = fits (most_items kind) (length before) item.index
    (omega (arith, few, length-append before (item ∷ new))) spelled.0.small in
    let group : (before ++ item ∷ []) ++ new ≡ before ++ item ∷ new = append_assoc before (item ∷ []) new in
    let P : List Item → Type 0 = λ is. AreApart is in
    let Q : List Item → Type 0 = λ is. length is ≤ most_items kind in
    ap (λ i. and_then (with_item kind before i) (λ more. items_from kind more fields))
    (item_of-again kind field item spelled.0)
    ∙ ap (λ r. and_then r (λ more. items_from kind more fields)) (is_added kind before item limit at.0 at.1)
    ∙ items_from-again kind (before ++ item ∷ []) fields new spelled.1 (subst P (sym group) apart)
    (subst Q (sym group) few)
    ∙ ap (λ (t : List Item). Ok t) group

header_by : (kind : FileKind) (line : List ℕ) (items : List Item) (fields : List (List ℕ)) → fields ≡ fields_of line
    → header_of kind fields ≡ Ok items → IsHeader kind line items
header_by kind line items [] e h = cc
header_by kind line items (field ∷ fields) e h =
    let found = items_from-found kind [] (field ∷ fields) items tt (omega arith) h in
    let spelled : AreItems kind (field ∷ fields) items =
    (let Q : List Item → Type 0 = λ is. AreItems kind (field ∷ fields) is in subst Q (sym found.is) found.spelled) in
    let R : List (List ℕ) → Type 0 = λ fs. AreItems kind fs items in
    record { fields = subst R e spelled; some = some field fields items spelled; few = found.few; apart = found.apart }
  where
    some : (field : List ℕ) (fields : List (List ℕ)) (items : List Item)
        → AreItems kind (field ∷ fields) items → 0 < length items
    some field fields [] s = absurd s
    some field fields (item ∷ items) s = omega arith

pub header_of-found : (kind : FileKind) (line : List ℕ) (items : List Item) → header_of kind (fields_of line) ≡ Ok items
    → IsHeader kind line items
header_of-found kind line items h = header_by kind line items (fields_of line) refl h

again_by : (kind : FileKind) (items : List Item) (fields : List (List ℕ)) → AreItems kind fields items
    → 0 < length items → length items ≤ most_items kind → AreApart items → header_of kind fields ≡ Ok items
again_by kind [] [] spelled some few apart = absurd (omega arith)
again_by kind (item ∷ items) [] spelled some few apart = absurd spelled
again_by kind items (field ∷ fields) spelled some few apart =
    items_from-again kind [] (field ∷ fields) items spelled apart few

pub header_of-again : (kind : FileKind) (line : List ℕ) (items : List Item) → IsHeader kind line items
    → header_of kind (fields_of line) ≡ Ok items
header_of-again kind line items is = again_by kind items (fields_of line) is.fields is.some is.few is.apart
