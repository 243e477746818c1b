-- This module defines parts of the states, and the choices that stay in them.
use Rattle.std.specs.Prelude.{◌≡◌, ◌≢◌, ℕ, ◌+◌, ◌-◌, ◌<◌, ◌≤◌, List, slice_index, Option}
use Rattle.game_model.specs.Query.{Query, states}
use Rattle.trap_sets.specs.Moves.{IsReplyMdp, Leads, Reach}

-- Each successor of the choice has the same number as the state of the choice.
abbrev pub Stays : Query → List ℕ → ℕ → ℕ → Type 0
Stays q of s c = (t : ℕ) → Leads q s c t → slice_index of t ≡ slice_index of s

-- Some successor of the choice has another number than the state of the choice.
abbrev pub Leaves : Query → List ℕ → ℕ → ℕ → Type 0
Leaves q of s c = (t : ℕ) × Leads q s c t × (slice_index of t ≢ slice_index of s)

-- A choice of the MDP of the replies at a state with a part has all its successors in that part.
pub record IsInternal (q : Query) (replies : List (Option ℕ)) (part : List ℕ) (s c : ℕ) : Type 0 where
  pub some : slice_index part s ≢ 0
  pub mdp : IsReplyMdp q replies s c
  pub stays : Stays q part s c

-- An internal choice of the first state leads to the second.
pub record IsStep (q : Query) (replies : List (Option ℕ)) (part : List ℕ) (s t : ℕ) : Type 0 where
  pub choice : ℕ
  pub state : s < states q
  pub internal : IsInternal q replies part s choice
  pub leads : Leads q s choice t

-- Internal choices lead from one state to another in some number of moves.
abbrev pub Comes : Query → List (Option ℕ) → List ℕ → ℕ → ℕ → Type 0
Comes q replies part s t = Reach (IsStep q replies part) s t

-- A part is named after its root: its number is one more than the root.
abbrev pub root_of : List ℕ → ℕ → ℕ
root_of part s = slice_index part s - 1

-- Each part has its root, which is its least state.
pub record IsRooted (part : List ℕ) : Type 0 where
  pub root : (s : ℕ) → slice_index part s ≢ 0 → slice_index part (root_of part s) ≡ slice_index part s
  pub least : (s : ℕ) → slice_index part s ≤ s + 1
