-- A header has an item.
use Rattle.std.proofs.Common.{◌≡◌, ◌<◌, ◌≤◌, ℕ, Bool, true, false, cond, List, [], ◌∷◌, ◌++◌, length, Option, Some}
use Rattle.std.proofs.Common.{None, Ok, Err, Result, sym, ap, refl, arith}
use Rattle.std.proofs.lemmas.List.{length-append}
use Rattle.label_lines.specs.declared.kind.FileKind.{FileKind}
use Rattle.label_lines.specs.declared.faults.LabCause.{LabCause}
use Rattle.label_lines.specs.declared.faults.LabCause.TheVariants.{OverLimit, DoubleIndex, DoubleName}
use Rattle.label_lines.specs.Header.{Item, item_of, passes_limit, has_index, has_name, with_item, and_then, items_from}
use Rattle.label_lines.specs.Header.{header_of}

-- an item that is added
pub record IsAdded (kind : FileKind) (before : List Item) (read : Option Item) (more : List Item) : Type 0 where
  pub item : Item
  pub is : read ≡ Some item
  pub limit : passes_limit kind before item.index ≡ false
  pub index : has_index before item.index ≡ false
  pub name : has_name before item.name ≡ false
  pub more_is : more ≡ before ++ item ∷ []

pub with_item-added : (kind : FileKind) (before : List Item) (read : Option Item) (more : List Item)
    → with_item kind before read ≡ Ok more → IsAdded kind before read more
with_item-added kind before None more h = cc
with_item-added kind before (Some item) more h =
    by (passes_limit kind before item.index) (has_index before item.index) (has_name before item.name) refl refl refl h
  where
    by : (o i m : Bool) → o ≡ passes_limit kind before item.index
        → i ≡ has_index before item.index → m ≡ has_name before item.name
        → cond o (Err OverLimit) (cond i (Err DoubleIndex) (cond m (Err DoubleName) (Ok (before ++ item ∷ []))))
        ≡ Ok more → IsAdded kind before (Some item) more
    by true i m p q r e = cc
    by false true m p q r e = cc
    by false false true p q r e = cc
    by false false false p q r e = record {
      item = item;
      is = refl;
      limit = sym p;
      index = sym q;
      name = sym r;
      more_is = cc;
    }

grows_by : (kind : FileKind) (before : List Item) (read : Option Item)
    (fields : List (List ℕ)) (items : List Item) (r : Result (List Item) LabCause)
    → ((more : List Item) → items_from kind more fields ≡ Ok items → length more ≤ length items)
    → r ≡ with_item kind before read → and_then r (λ more. items_from kind more fields) ≡ Ok items
    → length before < length items
grows_by kind before read fields items (Err cause) rest e g = cc
grows_by kind before read fields items (Ok more) rest e g =
    let added = with_item-added kind before read more (sym e) in
    omega (arith, ap (λ (t : List Item). length t) added.more_is, length-append before (added.item ∷ []), rest more g)

pub items_from-grows : (kind : FileKind) (before : List Item) (fields : List (List ℕ)) (items : List Item)
    → items_from kind before fields ≡ Ok items → length before ≤ length items
items_from-grows kind before [] items h =
    let same : before ≡ items = cc in
    omega (arith, ap (λ (t : List Item). length t) same)
items_from-grows kind before (field ∷ fields) items h =
    let more = grows_by kind before (item_of kind field) fields items (with_item kind before (item_of kind field))
    (λ ms e. items_from-grows kind ms fields items e) refl h in
    omega (arith, more)

-- a header has an item
pub header_of-some : (kind : FileKind) (fields : List (List ℕ)) (items : List Item)
    → header_of kind fields ≡ Ok items → 0 < length items
header_of-some kind [] items h = cc
header_of-some kind (field ∷ fields) items h = grows_by kind [] (item_of kind field) fields items
    (with_item kind [] (item_of kind field)) (λ ms e. items_from-grows kind ms fields items e) refl h
