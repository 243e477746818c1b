-- This module says what a solver hands out as a table.
use Rattle.std.specs.Prelude.{ℕ, List, [], All, ◌≡◌, ◌≤◌, ◌⊎◌, length}
use Rattle.game_model.specs.Limits.{unit}

-- A table has an entry for each of this many states, and each entry is at most the unit.
abbrev pub IsTable : ℕ → List ℕ → Type 0
IsTable states entries = (length entries ≡ states) × All (λ v. v ≤ unit) entries

-- A table has an entry for each of this many states, or none at all, and each entry is at most the unit.
abbrev pub IsTableOrNone : ℕ → List ℕ → Type 0
IsTableOrNone states entries = ((length entries ≡ states) ⊎ (entries ≡ [])) × All (λ v. v ≤ unit) entries
