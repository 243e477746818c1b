-- This module says how parts are broken up.
use Rattle.std.specs.Prelude.{◌≡◌, ◌≢◌, ℕ, ◌<◌, ◌≤◌, Bool, true, false, List, length, slice_index, slice_index_or}
use Rattle.std.specs.Prelude.{Option}
use Rattle.game_model.specs.Query.{Query, states}
use Rattle.trap_sets.specs.Ends.{IsEndComponent}
use Rattle.trap_sets.specs.inside.Parts.{root_of}

-- Marks break up the part of a state. No end component has both marked and unmarked states. The root of the part is
-- marked. The state itself is the first unmarked state that has a part.
pub record IsBreak (q : Query) (replies : List (Option ℕ)) (part : List ℕ) (marks : List Bool) (s : ℕ) : Type 0 where
  pub many : length marks ≡ states q
  pub inside : s < states q
  pub some : slice_index part s ≢ 0
  pub root : slice_index_or marks (root_of part s) false ≡ true
  pub apart : slice_index_or marks s false ≡ false
  pub first : (t : ℕ) → slice_index part t ≢ 0 → slice_index_or marks t false ≡ false → s ≤ t
  pub whole : (set : ℕ → Bool) (listed : ℕ → ℕ → Bool) → IsEndComponent q replies set listed → (t u : ℕ)
      → set t ≡ true → set u ≡ true → slice_index_or marks t false ≡ true → slice_index_or marks u false ≡ true

-- The unmarked ones among the first states of one part get another number. All other states keep theirs.
pub record IsSplit (old : List ℕ) (marks : List Bool) (own name n : ℕ) (new : List ℕ) : Type 0 where
  pub many : length new ≡ length old
  pub moved : (s : ℕ) → s < n → slice_index old s ≡ own → slice_index_or marks s false ≡ false
      → slice_index new s ≡ name
  pub marked : (s : ℕ) → slice_index_or marks s false ≡ true → slice_index new s ≡ slice_index old s
  pub others : (s : ℕ) → slice_index old s ≢ own → slice_index new s ≡ slice_index old s
  pub later : (s : ℕ) → n ≤ s → slice_index new s ≡ slice_index old s
