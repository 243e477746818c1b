-- This module defines the moves of a question whose minimiser plays its replies.
use Rattle.std.specs.Prelude.{◌≡◌, ℕ, zero, suc, ◌<◌, List, length, slice_index_or, Option, Some, None, Contains}
use Rattle.game_model.specs.declared.game.Side.TheVariants.{Min}
use Rattle.game_model.specs.Game.{choices_of, choice_of, destinations}
use Rattle.game_model.specs.Query.{Query, side_at}

-- A choice is one of the MDP of the replies if it is the reply of a state of the minimiser, or any choice of a state of
-- the maximiser.
pub record IsReplyMdp (q : Query) (replies : List (Option ℕ)) (s c : ℕ) : Type 0 where
  pub inside : c < length (choices_of q.game s)
  pub replied : side_at q s ≡ Min → slice_index_or replies s None ≡ Some c

-- Choice c of state s leads to state t.
abbrev pub Leads : Query → ℕ → ℕ → ℕ → Type 0
Leads q s c t = Contains (destinations (choice_of q.game s c).edges) t

-- This many moves lead from one state to another.
abbrev pub Walk : (ℕ → ℕ → Type 0) → ℕ → ℕ → ℕ → Type 0
Walk Move zero s t = s ≡ t
Walk Move (suc n) s t = (u : ℕ) × Move s u × Walk Move n u t

-- Some number of moves leads from one state to another.
abbrev pub Reach : (ℕ → ℕ → Type 0) → ℕ → ℕ → Type 0
Reach Move s t = (n : ℕ) × Walk Move n s t
