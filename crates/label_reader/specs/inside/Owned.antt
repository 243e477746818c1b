-- These definitions are about owners of states as they are read.
use Rattle.std.specs.Prelude.{◌≡◌, ◌==◌, ◌<◌, ℕ, Bool, true, false, List, [], ◌∷◌, length, Option, Some, None}
use Rattle.std.specs.Prelude.{slice_index_or, if◌then◌else◌, Result, Ok, Err}
use Rattle.std.specs.List.{list_all}
use Rattle.label_lines.specs.declared.faults.LabCause.{LabCause}
use Rattle.label_lines.specs.declared.faults.LabCause.TheVariants.{TwoOwners}
use Rattle.label_lines.specs.Header.{Item, place_of, place_in, has_index, and_then}
use Rattle.label_lines.specs.Lines.{StateLine, said_of, all_same, known_fields}

-- This is the place of the first index that is said.
abbrev pub first_of : List Item → List ℕ → Option ℕ
first_of items [] = None
first_of items (number ∷ numbers) = place_of items number

-- This is the place of the index that the first field spells.
abbrev pub first_in : List Item → List (List ℕ) → Option ℕ
first_in items [] = None
first_in items (field ∷ fields) = place_in items field

-- This is the owner that is named already, or the next one if there is none.
abbrev pub owner_then : Option ℕ → Option ℕ → Option ℕ
owner_then None next = next
owner_then (Some place) next = Some place

-- There is a place, and it is this one.
abbrev pub is_at : ℕ → Option ℕ → Bool
is_at place None = false
is_at place (Some other) = other == place

-- Each field spells the index at this place, if there is one.
abbrev pub all_at : List Item → Option ℕ → List (List ℕ) → Bool
all_at items None fields = true
all_at items (Some place) fields = list_all (λ field. is_at place (place_in items field)) fields

-- This is the owner behind a line with these fields, or their first fault.
abbrev pub owner_behind : List Item → ℕ → Option ℕ → List (List ℕ) → Result (Option ℕ) LabCause
owner_behind items state named fields = and_then (known_fields items fields)
    (λ _. if all_at items (owner_then named (first_in items fields)) fields then Ok
    (owner_then named (first_in items fields)) else Err (TwoOwners state))

-- Each state has the owner that is said first. No two indices that are said of a state differ, and each is known.
pub record AreRead (n : ℕ) (items : List Item) (lines : List StateLine) (owners : List (Option ℕ)) : Type 0 where
  pub count : length owners ≡ n
  pub first : (s : ℕ) → s < n → slice_index_or owners s None ≡ first_of items (said_of lines s)
  pub one : (s : ℕ) → all_same (said_of lines s) ≡ true
  pub known : (s : ℕ) → list_all (has_index items) (said_of lines s) ≡ true
