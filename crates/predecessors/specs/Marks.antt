-- This module defines when a state has a mark.
use Rattle.std.specs.Prelude.{◌≡◌, ℕ, Bool, true, false, List, slice_index_or}

-- The state has a mark.
abbrev pub IsMarked : List Bool → ℕ → Type 0
IsMarked marks s = slice_index_or marks s false ≡ true
