-- One item more in a header.
use Rattle.std.proofs.Common.{◌≡◌, ◌<◌, ◌≤◌, ◌+◌, ◌⊎◌, ℕ, suc, zero, Bool, true, false, cond, List, [], ◌∷◌, ◌++◌}
use Rattle.std.proofs.Common.{length, get_or, Option, Some, None, Ok, Err, Vec, Global, refl, sym, ap, ◌∙◌, subst, inl}
use Rattle.std.proofs.Common.{inr, arith, eqb, ltb, leb, nat_eq, is_some, bytes_eq, ◌||◌}
use Rattle.std.proofs.lemmas.Bool.{cases_Bool}
use Rattle.std.specs.Option.{option_map}
use Rattle.std.specs.HashMap.{get}
use Rattle.std.specs.List.{list_any}
use Rattle.std.proofs.lemmas.Bool.Decides.{nat_tests}
use Rattle.std.proofs.lemmas.List.{length-append}
use Rattle.std.proofs.lemmas.List.Elements.{All-push}
use Rattle.indexmap.specs.IndexMap.{insert_entry}
use Rattle.text_lines.specs.Text.{saturated}
use Rattle.label_lines.specs.declared.kind.FileKind.{FileKind}
use Rattle.label_lines.specs.declared.faults.LabCause.TheVariants.{OverLimit, DoubleIndex, DoubleName}
use Rattle.label_lines.specs.Limits.{greatest_index}
use Rattle.label_lines.specs.Header.{Item, place_of, has_index, has_name, passes_limit, most_items, with_item}
use Rattle.label_lines.specs.Header.{saturated_item}
use Rattle.label_lines.specs.Placed.{item_at, items_of, indices_of, Places, AreSingle, ArePlaced}
use Rattle.label_lines.specs.Named.{names_of}
use Rattle.label_lines.proofs.Indexed.{place_of-push_other, place_of-push_new}

abbrev tests : FileKind → List Item → Item → Bool → Bool → Bool → Type 0
tests kind before item over index name = with_item kind before (Some item)
    ≡ cond over (Err OverLimit) (cond index (Err DoubleIndex) (cond name (Err DoubleName) (Ok (before ++ item ∷ []))))

tested : (kind : FileKind) (before : List Item) (item : Item) (over index name : Bool)
    → passes_limit kind before item.index ≡ over → has_index before item.index ≡ index
    → has_name before item.name ≡ name → tests kind before item over index name
tested kind before item over index name o i n =
    ap (λ v. cond v (Err OverLimit) (cond (has_index before item.index) (Err DoubleIndex)
    (cond (has_name before item.name) (Err DoubleName) (Ok (before ++ item ∷ []))))) o
    ∙ ap (λ v. cond over (Err OverLimit)
    (cond v (Err DoubleIndex) (cond (has_name before item.name) (Err DoubleName) (Ok (before ++ item ∷ []))))) i
    ∙ ap (λ v.
    cond over (Err OverLimit) (cond index (Err DoubleIndex) (cond v (Err DoubleName) (Ok (before ++ item ∷ []))))) n

pub is_over : (kind : FileKind) (before : List Item) (item : Item) → passes_limit kind before item.index ≡ true
    → with_item kind before (Some item) ≡ Err OverLimit
is_over kind before item o =
    tested kind before item true (has_index before item.index) (has_name before item.name) o refl refl

pub is_double_index : (kind : FileKind) (before : List Item) (item : Item) → passes_limit kind before item.index ≡ false
    → has_index before item.index ≡ true → with_item kind before (Some item) ≡ Err DoubleIndex
is_double_index kind before item o i = tested kind before item false true (has_name before item.name) o i refl

pub is_double_name : (kind : FileKind) (before : List Item) (item : Item) → passes_limit kind before item.index ≡ false
    → has_index before item.index ≡ false → has_name before item.name ≡ true
    → with_item kind before (Some item) ≡ Err DoubleName
is_double_name kind before item o i n = tested kind before item false false true o i n

pub is_added : (kind : FileKind) (before : List Item) (item : Item) → passes_limit kind before item.index ≡ false
    → has_index before item.index ≡ false → has_name before item.name ≡ false
    → with_item kind before (Some item) ≡ Ok (before ++ item ∷ [])
is_added kind before item o i n = tested kind before item false false false o i n

over_anyway : (kind : FileKind) (before : List Item) (index : ℕ) → greatest_index < index
    → passes_limit kind before index ≡ true
over_anyway kind before index h =
    past (leb (most_items kind) (length before)) (ltb greatest_index index) (grind (arith, nat_tests))
  where
    past : (a b : Bool) → b ≡ true → (a || b) ≡ true
    past true b h = refl
    past false b h = h

abbrev named : ℕ → List ℕ → Item
named n name = record { index = n; name = name }

-- an item that is read as far as 64 bits go is as good as the item
pub with_item-saturated : (kind : FileKind) (before : List Item) (read : Option Item) (item : Item)
    → option_map saturated_item read ≡ Some item → with_item kind before read ≡ with_item kind before (Some item)
with_item-saturated kind before None item e = cc
with_item-saturated kind before (Some exact) item e = elim (cases_Bool (ltb greatest_index exact.index)) [
  | inl big ↦
      let far : greatest_index < exact.index = grind (arith, nat_tests, big) in
      is_over kind before exact (over_anyway kind before exact.index far)
      ∙ sym (is_over kind before item (over_anyway kind before item.index (omega (arith, index_is, far))))
  | inr small ↦
      let near : exact.index ≤ greatest_index = grind (arith, nat_tests, small) in
      let same : saturated exact.index ≡ exact.index = omega (arith, near) in
      ap (λ i. with_item kind before (Some i)) (sym (ap (λ n. named n exact.name) same) ∙ whole_is)
]
  where
    whole_is : saturated_item exact ≡ item
    whole_is = cc

    index_is : saturated exact.index ≡ item.index
    index_is = ap (λ (i : Item). i.index) whole_is

pub has_name-names_of : (entries : List (Vec ℕ Global × ℕ)) (name : List ℕ)
    → list_any (λ n. bytes_eq name n) (names_of entries) ≡ has_name (items_of entries) name
has_name-names_of [] name = refl
has_name-names_of (e ∷ entries) name = ap (λ v. bytes_eq name e.0.items || v) (has_name-names_of entries name)

pub has_index-none : (items : List Item) (index : ℕ) → has_index items index ≡ false → place_of items index ≡ None
has_index-none items index h = none (place_of items index) h
  where
    none : (p : Option ℕ) → is_some p ≡ false → p ≡ None
    none None h = refl
    none (Some k) h = cc

pub insert_entry-last : (entries : List (Vec ℕ Global × ℕ)) (k : Vec ℕ Global) (v : ℕ)
    → has_name (items_of entries) k.items ≡ false
    → insert_entry (λ (x y : Vec ℕ Global). bytes_eq x.items y.items) entries k v ≡ entries ++ (k, v) ∷ []
insert_entry-last [] k v h = refl
insert_entry-last (e ∷ entries) k v h =
    let parts = both (bytes_eq k.items e.0.items) (has_name (items_of entries) k.items) h in
    ap (λ b. cond b ((e.0, v) ∷ entries)
    (e ∷ insert_entry (λ (x y : Vec ℕ Global). bytes_eq x.items y.items) entries k v)) parts.0
    ∙ ap (λ es. e ∷ es) (insert_entry-last entries k v parts.1)
  where
    both : (a b : Bool) → (a || b) ≡ false → (a ≡ false) × (b ≡ false)
    both true b h = cc
    both false b h = (refl, h)

pub items_of-push : (entries : List (Vec ℕ Global × ℕ)) (entry : Vec ℕ Global × ℕ)
    → items_of (entries ++ entry ∷ []) ≡ items_of entries ++ item_at entry ∷ []
items_of-push [] entry = refl
items_of-push (e ∷ entries) entry = ap (λ items. item_at e ∷ items) (items_of-push entries entry)

indices_of-push : (items : List Item) (item : Item) (k : ℕ) → k < length items
    → get_or (indices_of (items ++ item ∷ [])) k 0 ≡ get_or (indices_of items) k 0
indices_of-push [] item k h = absurd (omega arith)
indices_of-push (first ∷ items) item zero h = refl
indices_of-push (first ∷ items) item (suc k) h = indices_of-push items item k (omega arith)

indices_of-last : (items : List Item) (item : Item)
    → get_or (indices_of (items ++ item ∷ [])) (length items) 0 ≡ item.index
indices_of-last [] item = refl
indices_of-last (first ∷ items) item = indices_of-last items item

pub AreSingle-push : (items : List Item) (item : Item) → AreSingle items → place_of items item.index ≡ None
    → item.index ≤ greatest_index → AreSingle (items ++ item ∷ [])
AreSingle-push items item single new small = record {
  small = All-push (λ (i : Item). i.index ≤ greatest_index) items item single.small small;
  once = once;
}
  where
    old : (k : ℕ) → k < length items
        → place_of (items ++ item ∷ []) (get_or (indices_of (items ++ item ∷ [])) k 0) ≡ Some k
    old k h =
        let at = single.once k h in
        let apart : eqb item.index (get_or (indices_of items) k 0) ≡ false =
        differs (cases_Bool (eqb item.index (get_or (indices_of items) k 0))) at in
        ap (λ i. place_of (items ++ item ∷ []) i) (indices_of-push items item k h)
        ∙ place_of-push_other items item (get_or (indices_of items) k 0) apart ∙ at
      where
        equal : (a b : ℕ) → eqb a b ≡ true → a ≡ b
        equal a b h = grind (arith, nat_tests)

        differs : (eqb item.index (get_or (indices_of items) k 0) ≡ true)
            ⊎ (eqb item.index (get_or (indices_of items) k 0) ≡ false)
            → place_of items (get_or (indices_of items) k 0) ≡ Some k
            → eqb item.index (get_or (indices_of items) k 0) ≡ false
        differs (inr e) at = e
        differs (inl e) at =
            let none = ap (λ i. place_of items i) (equal item.index (get_or (indices_of items) k 0) e) in
            cc

    last : place_of (items ++ item ∷ []) (get_or (indices_of (items ++ item ∷ [])) (length items) 0)
        ≡ Some (length items)
    last = ap (λ i. place_of (items ++ item ∷ []) i) (indices_of-last items item) ∙ place_of-push_new items item new

    once : (k : ℕ) → k < length (items ++ item ∷ [])
        → place_of (items ++ item ∷ []) (get_or (indices_of (items ++ item ∷ [])) k 0) ≡ Some k
    once k h = elim (cases_Bool (ltb k (length items))) [
      | inl e ↦ old k (grind (arith, nat_tests, e))
      | inr e ↦
          let at : length items ≡ k = ends k (length items) (omega (arith, h, length-append items (item ∷ []))) e in
          let P : ℕ → Type 0 =
          λ j. place_of (items ++ item ∷ []) (get_or (indices_of (items ++ item ∷ [])) j 0) ≡ Some j in
          subst P at last
    ]
      where
        ends : (k n : ℕ) → k < n + 1 → ltb k n ≡ false → n ≡ k
        ends k n h e = grind (arith, nat_tests)

pub ArePlaced-push : (items : List Item) (item : Item) (places more : Places) → ArePlaced items places
    → place_of items item.index ≡ None → item.index ≤ greatest_index → ((index : ℕ)
    → get nat_eq more index ≡ cond (nat_eq item.index index) (Some (length items)) (get nat_eq places index))
    → ArePlaced (items ++ item ∷ []) more
ArePlaced-push items item places more placed new small updates =
    record { at = at; single = AreSingle-push items item placed.single new small }
  where
    equal : (a b : ℕ) → eqb a b ≡ true → a ≡ b
    equal a b h = grind (arith, nat_tests)

    at : (index : ℕ) → get nat_eq more index ≡ place_of (items ++ item ∷ []) index
    at index = elim (cases_Bool (eqb item.index index)) [
      | inl e ↦
          updates index ∙ ap (λ v. cond v (Some (length items)) (get nat_eq places index)) e
          ∙ sym (place_of-push_new items item new)
          ∙ ap (λ i. place_of (items ++ item ∷ []) i) (equal item.index index e)
      | inr e ↦
          updates index ∙ ap (λ v. cond v (Some (length items)) (get nat_eq places index)) e
          ∙ placed.at index ∙ sym (place_of-push_other items item index e)
    ]
