-- This module defines the exits of a set of states, and the best exit over a table.
use Rattle.std.specs.Prelude.{◌≡◌, ℕ, ◌<◌, ◌≤◌, ◌⊎◌, Bool, true, false, List, length, slice_index}
use Rattle.game_model.specs.declared.game.Side.TheVariants.{Max}
use Rattle.game_model.specs.Game.{choices_of, choice_of}
use Rattle.game_model.specs.Query.{Query, states, side_at}
use Rattle.game_model.specs.Rounded.{up_value}
use Rattle.trap_sets.specs.Ends.{numbered}
use Rattle.trap_sets.specs.Moves.{Leads}

-- An exit is a choice that has a successor outside the set, at a state of the maximiser in the set.
pub record IsExit (q : Query) (set : ℕ → Bool) (s c : ℕ) : Type 0 where
  pub state : s < states q
  pub member : set s ≡ true
  pub greatest : side_at q s ≡ Max
  pub choice : c < length (choices_of q.game s)
  pub leaves : (t : ℕ) × Leads q s c t × (set t ≡ false)

-- An exit has this up value.
abbrev pub GivesExit : Query → (ℕ → ℕ) → (ℕ → Bool) → ℕ → Type 0
GivesExit q table set value = (s : ℕ) × (c : ℕ) × IsExit q set s c × (up_value table (choice_of q.game s c) ≡ value)

-- The best exit is the greatest up value of an exit, and 0 if there is no exit.
pub record IsBestExit (q : Query) (table : ℕ → ℕ) (set : ℕ → Bool) (value : ℕ) : Type 0 where
  pub most : (s c : ℕ) → IsExit q set s c → up_value table (choice_of q.game s c) ≤ value
  pub given : (value ≡ 0) ⊎ GivesExit q table set value

-- Each number has a value that is at least the up value of each of its exits at a state before this one, or by an
-- earlier choice of this one. The value is the up value of some exit of the number, or 0.
pub record IsBestBefore (q : Query) (table : ℕ → ℕ) (of exits : List ℕ) (state choice : ℕ) : Type 0 where
  pub earlier : (i s c : ℕ) → 1 ≤ i → IsExit q (numbered of i) s c → s < state
      → up_value table (choice_of q.game s c) ≤ slice_index exits i
  pub here : (i c : ℕ) → 1 ≤ i → IsExit q (numbered of i) state c → c < choice
      → up_value table (choice_of q.game state c) ≤ slice_index exits i
  pub given : (i : ℕ) → (slice_index exits i ≡ 0) ⊎ GivesExit q table (numbered of i) (slice_index exits i)

-- Each numbered set has its best exit.
abbrev pub AreBestExits : Query → (ℕ → ℕ) → List ℕ → List ℕ → Type 0
AreBestExits q table of exits = (i : ℕ) → 1 ≤ i → i < length exits
    → IsBestExit q table (numbered of i) (slice_index exits i)
