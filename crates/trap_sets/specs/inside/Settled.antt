-- This module defines parts of the states on the way to the traps: each end component lies in one part.
use Rattle.std.specs.Prelude.{◌≡◌, ◌≢◌, ℕ, ◌<◌, ◌⊎◌, Bool, true, List, length, slice_index, Option}
use Rattle.game_model.specs.Query.{Query, states}
use Rattle.fixed_bellman.specs.Given.{IsFree}
use Rattle.trap_sets.specs.Ends.{IsEndComponent}
use Rattle.trap_sets.specs.inside.Parts.{IsInternal, Comes, IsRooted}

-- The states with a part are neither goal nor dead, and each end component lies in one part.
pub record KeepsEnds (q : Query) (replies : List (Option ℕ)) (part : List ℕ) : Type 0 where
  pub many : length part ≡ states q
  pub free : (s : ℕ) → s < states q → slice_index part s ≢ 0 → IsFree q s
  pub kept : (set : ℕ → Bool) (listed : ℕ → ℕ → Bool) → IsEndComponent q replies set listed → (s : ℕ) → set s ≡ true
      → slice_index part s ≢ 0
  pub joined : (set : ℕ → Bool) (listed : ℕ → ℕ → Bool) → IsEndComponent q replies set listed → (s t : ℕ) → set s ≡ true
      → set t ≡ true → slice_index part s ≡ slice_index part t

-- Each state with a part has an internal choice.
abbrev pub HaveInternal : Query → List (Option ℕ) → List ℕ → Type 0
HaveInternal q replies part = (s : ℕ) → s < states q → slice_index part s ≢ 0 → (c : ℕ) × IsInternal q replies part s c

-- The states of each part reach each other by internal choices.
abbrev pub AreJoined : Query → List (Option ℕ) → List ℕ → Type 0
AreJoined q replies part = (s t : ℕ) → slice_index part s ≢ 0 → slice_index part s ≡ slice_index part t
    → Comes q replies part s t

-- Each part is an end component, and each end component lies in one part.
pub record AreSettled (q : Query) (replies : List (Option ℕ)) (part : List ℕ) : Type 0 where
  pub keeps : KeepsEnds q replies part
  pub rooted : IsRooted part
  pub internal : HaveInternal q replies part
  pub joined : AreJoined q replies part

-- A state with an internal choice keeps its number, and any other has none.
abbrev pub IsKept : Query → List (Option ℕ) → List ℕ → ℕ → ℕ → Type 0
IsKept q replies part s own = ((own ≡ 0) × ((c : ℕ) → ¬ IsInternal q replies part s c))
    ⊎ ((own ≡ slice_index part s) × ((c : ℕ) × IsInternal q replies part s c))

-- A state has part 1 if it is neither goal nor dead, and else none.
pub record IsOpening (q : Query) (s own : ℕ) : Type 0 where
  pub free : own ≢ 0 → IsFree q s
  pub all : IsFree q s → own ≡ 1
