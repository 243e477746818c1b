-- Contracts see the states at which each label holds.
use Rattle.std.specs.Prelude.{◌≡◌, ◌+◌, ℕ, Bool, false, List, [], ◌∷◌, length, slice_index_or, if◌then◌else◌, bytes_eq}
use Rattle.std.specs.Prelude.{All}
use Rattle.std.specs.List.{list_any}

-- A label has a name, and a mark for each state, which says whether it holds there.
pub record Label : Type 0 where
  pub name : List ℕ
  pub marks : List Bool

-- A labelling has the labels of a number of states, in the order of the header.
pub record Labelling : Type 0 where
  pub states : ℕ
  pub labels : List Label

-- Every labelling keeps this: each label has a mark for each state.
pub record IsLabelling (l : Labelling) : Type 0 where
  pub lengths : All (λ label. length label.marks ≡ l.states) l.labels

-- These are the marks of the label with this name, or none if there is no such label.
abbrev pub marks_of : List Label → List ℕ → List Bool
marks_of [] name = []
marks_of (label ∷ labels) name = if bytes_eq name label.name then label.marks else marks_of labels name

-- There is a label with this name.
abbrev pub is_known : Labelling → List ℕ → Bool
is_known l name = list_any (λ label. bytes_eq name label.name) l.labels

-- The label with this name holds at the state.
abbrev pub holds_at : Labelling → List ℕ → ℕ → Bool
holds_at l name state = slice_index_or (marks_of l.labels name) state false

-- These are the places of the marks that are set, counted from this number on.
abbrev pub marked_from : ℕ → List Bool → List ℕ
marked_from k [] = []
marked_from k (mark ∷ marks) = if mark then k ∷ marked_from (k + 1) marks else marked_from (k + 1) marks

-- These are the states at which the label with this name holds, in rising order.
abbrev pub states_with : Labelling → List ℕ → List ℕ
states_with l name = marked_from 0 (marks_of l.labels name)
