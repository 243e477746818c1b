-- This module says when components are in the order of play.
use Rattle.std.specs.Prelude.{◌≡◌, ℕ, ◌<◌, ◌≤◌, Bool, true, List, length, slice_index}
use Rattle.game_model.specs.Game.{choices_of, choice_of, edge_of}
use Rattle.game_model.specs.Query.{Query, states}

-- The first edges of a choice lead to the component of its state or to earlier ones.
abbrev pub LeadsBack : Query → List ℕ → ℕ → ℕ → ℕ → Type 0
LeadsBack q component s c edges = (place : ℕ) → place < edges
    → slice_index component (edge_of q.game s c place).to ≤ slice_index component s

-- Each kept choice among the first ones of a state leads only to the component of the state or to earlier ones.
abbrev pub StateLeadsBack : Query → (ℕ → ℕ → Bool) → List ℕ → ℕ → ℕ → Type 0
StateLeadsBack q kept component s choices = (c : ℕ) → c < choices → kept s c ≡ true
    → LeadsBack q component s c (length (choice_of q.game s c).edges)

-- All kept choices of the first states lead only to the component of their state or to earlier ones.
abbrev pub IsPlayOrderBelow : Query → (ℕ → ℕ → Bool) → List ℕ → ℕ → Type 0
IsPlayOrderBelow q kept component n = (s : ℕ) → s < n → StateLeadsBack q kept component s (length (choices_of q.game s))

-- Components are in the order of play if each kept choice leads only to the component of its state or to earlier ones.
abbrev pub IsPlayOrder : Query → (ℕ → ℕ → Bool) → List ℕ → Type 0
IsPlayOrder q kept component = IsPlayOrderBelow q kept component (states q)
