-- This module defines the marks of the states that a step down looks at.
use Rattle.std.specs.Prelude.{◌≡◌, ℕ, ◌<◌, ◌≤◌, Bool, false, List, length, slice_index_or}
use Rattle.game_model.specs.Game.{Distribution}
use Rattle.game_model.specs.Query.{Query, states}
use Rattle.game_model.specs.Rounded.{down_step}
use Rattle.predecessors.specs.Marks.{IsMarked}
use Rattle.predecessors.specs.Moves.{LeadsTo}

-- A state without a mark does not fall.
abbrev pub AreQuiet : Query → List Bool → (ℕ → ℕ) → Type 0
AreQuiet q marks table = (s : ℕ) → s < states q → slice_index_or marks s false ≡ false → table s ≤ down_step q table s

-- Each state with a move to a state whose entry fell has a mark.
abbrev pub AreMarkedFor : List (List Distribution) → (ℕ → ℕ) → (ℕ → ℕ) → List Bool → Type 0
AreMarkedFor game table next marks = (s c t : ℕ) → t < length game → next t < table t → LeadsTo game s c t
    → IsMarked marks s
