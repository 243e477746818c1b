-- The code keeps the items of a header as names in a map with their indices, and as places by index.
use Rattle.std.specs.Prelude.{◌≡◌, ◌<◌, ◌≤◌, ℕ, List, length, map, Some, nat_eq, slice_index, Vec, All}
use Rattle.std.specs.HashMap.{get, HashMap}
use Rattle.std.specs.declared.hash.FoldHasher.{FoldHasher}
use Rattle.std.specs.declared.hash.BuildHasherDefault.{BuildHasherDefault}
use Rattle.std.specs.declared.alloc.Global.{Global}
use Rattle.label_lines.specs.Limits.{greatest_index}
use Rattle.label_lines.specs.Header.{Item, place_of}

-- This is an entry of the map as an item: its name with its index.
abbrev pub item_at : Vec ℕ Global × ℕ → Item
item_at entry = record { index = entry.1; name = entry.0.items }

-- These are the entries of the map as items, in their order.
abbrev pub items_of : List (Vec ℕ Global × ℕ) → List Item
items_of entries = map item_at entries

-- These are the indices of the items, in the order of the header.
abbrev pub indices_of : List Item → List ℕ
indices_of items = map (λ item. item.index) items

-- A map from numbers to numbers keeps the places by index.
abbrev pub Places : Type 0
Places = HashMap ℕ ℕ (BuildHasherDefault FoldHasher)

-- No two items have one index, and each index is within the limit.
pub record AreSingle (items : List Item) : Type 0 where
  pub small : All (λ item. item.index ≤ greatest_index) items
  pub once : (k : ℕ) → k < length items → place_of items (slice_index (indices_of items) k) ≡ Some k

-- Each index leads to the place of the item that has it, and any other number to none. No two items have one index.
pub record ArePlaced (items : List Item) (places : Places) : Type 0 where
  pub at : (index : ℕ) → get nat_eq places index ≡ place_of items index
  pub single : AreSingle items
