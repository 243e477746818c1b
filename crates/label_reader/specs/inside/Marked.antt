-- Sets of states are marked, one set for each item of the header.
use Rattle.std.specs.Prelude.{◌≡◌, ◌<◌, ℕ, Bool, true, false, List, [], ◌∷◌, length, Option, Some, None, slice_index}
use Rattle.std.specs.Prelude.{slice_index_or, slice_set, All}
use Rattle.label_lines.specs.Header.{Item, place_in}
use Rattle.label_lines.specs.Placed.{indices_of}

-- These are the sets, with the state marked in the one at this place.
abbrev pub with_mark : ℕ → Option ℕ → List (List Bool) → List (List Bool)
with_mark state None sets = sets
with_mark state (Some place) sets = slice_set sets place (slice_set (slice_index_or sets place []) state true)

-- These are the sets, with the state marked in each whose index a field spells.
abbrev pub with_marks : List Item → ℕ → List (List Bool) → List (List ℕ) → List (List Bool)
with_marks items state sets [] = sets
with_marks items state sets (field ∷ fields) =
    with_marks items state (with_mark state (place_in items field) sets) fields

-- Each set has exactly the states of which its index is said.
pub record AreMarked (n : ℕ) (items : List Item) (said : ℕ → ℕ → Bool) (sets : List (List Bool)) : Type 0 where
  pub count : length sets ≡ length items
  pub lengths : All (λ marks. length marks ≡ n) sets
  pub marks : (k s : ℕ) → k < length items → s < n
      → slice_index_or (slice_index_or sets k []) s false ≡ said (slice_index (indices_of items) k) s
