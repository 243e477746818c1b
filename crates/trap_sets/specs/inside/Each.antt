-- This module states a fact for each entry of a list.
use Rattle.std.specs.Prelude.{◌≡◌, ℕ, ◌<◌, List, length, slice_index}

-- A list has an entry for each of the first states, and the fact holds for each state and its entry.
pub record IsEach (P : ℕ → ℕ → Type 0) (list : List ℕ) (n : ℕ) : Type 0 where
  pub many : length list ≡ n
  pub each : (s : ℕ) → s < n → P s (slice_index list s)
