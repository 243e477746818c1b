-- The header of a label file or an owner file has items, or a first fault.
use Rattle.std.specs.Prelude.{◌==◌, ◌&&◌, ◌||◌, ◌+◌, ◌-◌, ℕ, nat_le, nat_lt, not, Bool, List, [], ◌∷◌, ◌++◌, length}
use Rattle.std.specs.Prelude.{take, drop, slice_index, Option, Some, None, option_map, option_and_then}
use Rattle.std.specs.Prelude.{is_some, if◌then◌else◌, bytes_eq, Result, Ok, Err}
use Rattle.std.specs.List.{list_any, list_all}
use Rattle.text_lines.specs.Text.{number_of, is_digit, saturated}
use Rattle.text_lines.specs.Parts.{split_first}
use Rattle.label_lines.specs.declared.kind.FileKind.{FileKind}
use Rattle.label_lines.specs.declared.kind.FileKind.TheVariants.{LabelFile, OwnerFile}
use Rattle.label_lines.specs.declared.faults.LabCause.{LabCause}
use Rattle.label_lines.specs.declared.faults.LabCause.TheVariants.{NoHeader, BadHeader, OverLimit, DoubleIndex}
use Rattle.label_lines.specs.declared.faults.LabCause.TheVariants.{DoubleName}
use Rattle.label_lines.specs.Limits.{most_labels, most_players, greatest_index, longest_name}

-- An item of a header gives an index to a name.
pub record Item : Type 0 where
  pub index : ℕ
  pub name : List ℕ

-- This is the item with its index as far as 64 bits go.
abbrev pub saturated_item : Item → Item
saturated_item item = record { index = saturated item.index; name = item.name }

-- This is what is between two quotes.
abbrev pub quoted : List ℕ → Option (List ℕ)
quoted bytes = if nat_le 2 (length bytes) && slice_index bytes 0 == 34 && slice_index bytes (length bytes - 1) ==
    34 then Some (take (length bytes - 2) (drop 1 bytes)) else None

-- The byte is from `!` to `~`, and no quote.
abbrev pub is_label_byte : ℕ → Bool
is_label_byte b = nat_le 33 b && nat_le b 126 && not (b == 34)

-- The byte is a letter, a digit or `_`.
abbrev pub is_word_byte : ℕ → Bool
is_word_byte b = is_digit b || (nat_le 65 b && nat_le b 90) || (nat_le 97 b && nat_le b 122) || b == 95

-- The name has the bytes that a file of this kind allows.
abbrev pub has_name_bytes : FileKind → List ℕ → Bool
has_name_bytes LabelFile name = list_all is_label_byte name
has_name_bytes OwnerFile name = not (is_digit (slice_index name 0)) && list_all is_word_byte name

-- A file of this kind may have the name: it is not empty, has at most 255 bytes, and is spelled as the kind allows.
abbrev pub is_name : FileKind → List ℕ → Bool
is_name kind name = nat_le 1 (length name) && nat_le (length name) longest_name && has_name_bytes kind name

-- This is the item of an index and a name, if there are both and a file of this kind may have the name.
abbrev pub item_named : FileKind → Option ℕ → Option (List ℕ) → Option Item
item_named kind (Some index) (Some name) =
    if is_name kind name then Some (record { index = index; name = name }) else None
item_named kind index name = None

-- This is the item whose index is the first part, and whose name is the second part without its quotes.
abbrev pub item_parts : FileKind → Option (List ℕ × List ℕ) → Option Item
item_parts kind None = None
item_parts kind (Some parts) = item_named kind (number_of parts.0) (quoted parts.1)

-- An item is an index, `=`, and a name in quotes.
abbrev pub item_of : FileKind → List ℕ → Option Item
item_of kind field = item_parts kind (split_first 61 field)

-- A header of this kind has at most this many items.
abbrev pub most_items : FileKind → ℕ
most_items LabelFile = most_labels
most_items OwnerFile = most_players

-- This is the place of the item with this index.
abbrev pub place_of : List Item → ℕ → Option ℕ
place_of [] index = None
place_of (item ∷ items) index = if item.index == index then Some 0 else option_map (λ k. k + 1) (place_of items index)

-- This is the place of the item whose index a field spells.
abbrev pub place_in : List Item → List ℕ → Option ℕ
place_in items field = option_and_then (place_of items) (number_of field)

-- The field spells the index of some item.
abbrev pub has_place : List Item → List ℕ → Bool
has_place items field = is_some (place_in items field)

-- Some item has this index.
abbrev pub has_index : List Item → ℕ → Bool
has_index items index = is_some (place_of items index)

-- Some item has this name.
abbrev pub has_name : List Item → List ℕ → Bool
has_name items name = list_any (λ item. bytes_eq name item.name) items

-- One item more would be too many, or its index is too great.
abbrev pub passes_limit : FileKind → List Item → ℕ → Bool
passes_limit kind before index = nat_le (most_items kind) (length before) || nat_lt greatest_index index

-- These are the items with one more at the end, or its first fault.
abbrev pub with_item : FileKind → List Item → Option Item → Result (List Item) LabCause
with_item kind before None = Err BadHeader
with_item kind before (Some item) =
    if passes_limit kind before item.index then Err OverLimit else (
    if has_index before item.index then Err DoubleIndex else (
    if has_name before item.name then Err DoubleName else Ok (before ++ item ∷ [])))

-- The next step goes on with the result of a step without a fault.
abbrev pub and_then : {X Y : Type 0} → Result X LabCause → (X → Result Y LabCause) → Result Y LabCause
and_then (Ok x) next = next x
and_then (Err cause) next = Err cause

-- These are the items before these fields and those that the fields spell, or the first fault.
abbrev pub items_from : FileKind → List Item → List (List ℕ) → Result (List Item) LabCause
items_from kind before [] = Ok before
items_from kind before (field ∷ fields) =
    and_then (with_item kind before (item_of kind field)) (λ items. items_from kind items fields)

-- These are the items of a header with these fields, or its first fault.
abbrev pub header_of : FileKind → List (List ℕ) → Result (List Item) LabCause
header_of kind [] = Err NoHeader
header_of kind (field ∷ fields) = items_from kind [] (field ∷ fields)
