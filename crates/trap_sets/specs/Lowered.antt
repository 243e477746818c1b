-- This module defines upper tables that are lowered to the best exits of traps.
use Rattle.std.specs.Prelude.{◌≡◌, ◌≢◌, ℕ, ◌<◌, ◌≤◌, Bool, true, List, length, min, slice_index, Option}
use Rattle.game_model.specs.Query.{Query}
use Rattle.trap_sets.specs.Ends.{IsTrap, AreTraps, numbered}
use Rattle.trap_sets.specs.Exits.{IsBestExit}

-- A state of a trap has the lesser of its entry and the best exit of the trap. Any other state keeps its entry.
pub record IsLoweredEntry (q : Query) (of upper : List ℕ) (s value : ℕ) : Type 0 where
  pub trapped : slice_index of s ≢ 0 → (exit : ℕ) × IsBestExit q (slice_index upper)
      (numbered of (slice_index of s)) exit × (value ≡ min (slice_index upper s) exit)
  pub other : slice_index of s ≡ 0 → value ≡ slice_index upper s

-- Each entry of a table is lowered to the best exit over the given table if its state is in a trap.
pub record IsLowered (q : Query) (of upper lowered : List ℕ) : Type 0 where
  pub many : length lowered ≡ length upper
  pub each : (s : ℕ) → s < length upper → IsLoweredEntry q of upper s (slice_index lowered s)

-- A table is the given table lowered to the best exits of the traps.
pub record IsLoweredTable (q : Query) (replies : List (Option ℕ)) (upper table : List ℕ) : Type 0 where
  pub of : List ℕ
  pub count : ℕ
  pub traps : AreTraps q replies of count
  pub lowered : IsLowered q of upper table

-- No state of a trap has an entry above the best exit over the given table.
abbrev pub IsCapped : Query → List (Option ℕ) → List ℕ → List ℕ → Type 0
IsCapped q replies upper table =
    (trap : ℕ → Bool) (exit : ℕ) → IsTrap q replies trap → IsBestExit q (slice_index upper) trap exit → (s : ℕ)
    → trap s ≡ true → slice_index table s ≤ exit
