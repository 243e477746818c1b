-- These definitions say which choices of a state an upper table holds to its entry.
use Rattle.std.specs.Prelude.{ℕ, ◌*◌, ◌<◌, ◌≤◌, length}
use Rattle.game_model.specs.Game.{Distribution, choices_of, choice_of}
use Rattle.game_model.specs.Query.{Query}
use Rattle.game_model.specs.Values.{weighted_sum}

-- The weighted average of a choice over a table is at most an entry.
abbrev pub IsHeld : (ℕ → ℕ) → ℕ → Distribution → Type 0
IsHeld table entry choice = weighted_sum table choice.edges ≤ entry * choice.total

-- A choice of a state is held to the entry of the state.
abbrev pub IsHeldAt : Query → (ℕ → ℕ) → ℕ → ℕ → Type 0
IsHeldAt q table s c = IsHeld table (table s) (choice_of q.game s c)

-- Each choice of a state is held to the entry of the state.
abbrev pub AllHeld : Query → (ℕ → ℕ) → ℕ → Type 0
AllHeld q table s = (c : ℕ) → c < length (choices_of q.game s) → IsHeldAt q table s c

-- No choice of a state is held to the entry of the state.
abbrev pub NoneHeld : Query → (ℕ → ℕ) → ℕ → Type 0
NoneHeld q table s = (c : ℕ) → c < length (choices_of q.game s) → ¬ IsHeldAt q table s c

-- This is the first choice of a state that is held.
pub record IsFirstHeld (q : Query) (table : ℕ → ℕ) (s choice : ℕ) : Type 0 where
  pub inside : choice < length (choices_of q.game s)
  pub held : IsHeldAt q table s choice
  pub before : (c : ℕ) → c < choice → ¬ IsHeldAt q table s c

-- This is the first choice of a state that is not held.
pub record IsFirstUnheld (q : Query) (table : ℕ → ℕ) (s choice : ℕ) : Type 0 where
  pub inside : choice < length (choices_of q.game s)
  pub unheld : ¬ IsHeldAt q table s choice
  pub before : (c : ℕ) → c < choice → IsHeldAt q table s c
