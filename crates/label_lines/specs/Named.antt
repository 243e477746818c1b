-- These definitions pair the names in a map with what belongs to their places.
use Rattle.std.specs.Prelude.{ℕ, Bool, List, [], ◌∷◌, map, Option, unwrap_or, Vec}
use Rattle.std.specs.declared.alloc.Global.{Global}
use Rattle.label_lines.specs.Labels.{Label}

-- These are the names of a map's entries.
abbrev pub names_of : List (Vec ℕ Global × ℕ) → List (List ℕ)
names_of entries = map (λ entry. entry.0.items) entries

-- These are labels: each has an entry's name and the marks in its place.
abbrev pub labels_named : List (Vec ℕ Global × ℕ) → List (List Bool) → List Label
labels_named (entry ∷ entries) (marks ∷ sets) =
    record { name = entry.0.items; marks = marks } ∷ labels_named entries sets
labels_named entries sets = []

-- These are the places of the owners. If no owner is named, the place is 0.
abbrev pub places_of : List (Option ℕ) → List ℕ
places_of owners = map (λ owner. unwrap_or owner 0) owners
