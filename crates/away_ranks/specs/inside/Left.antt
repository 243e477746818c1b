-- This module defines how a state lingers when others are left.
use Rattle.std.specs.Prelude.{◌≡◌, ℕ, ◌<◌, Bool, true, false, List, length, slice_index_or, Option, Some, None}
use Rattle.game_model.specs.declared.game.Side.TheVariants.{Max}
use Rattle.game_model.specs.Game.{choices_of, choice_of}
use Rattle.game_model.specs.Query.{Query, states, side_at}
use Rattle.attractors.specs.Attractor.{serves}
use Rattle.almost_sure.specs.ExcludedSets.{gone_excluded}

-- The maximiser has a choice in range that does not serve.
abbrev pub IsUnserved : Query → List Bool → List Bool → List (Option ℕ) → ℕ → Type 0
IsUnserved q gone left choices s = (c : ℕ) × (slice_index_or choices s None ≡ Some c)
    × (c < length (choices_of q.game s)) × (serves (gone_excluded gone) left (choice_of q.game s c) ≡ false)

-- It has one at each of its states that neither has gone nor is left.
abbrev pub AreUnserved : Query → List Bool → List Bool → List (Option ℕ) → Type 0
AreUnserved q gone left choices = (s : ℕ) → s < states q → side_at q s ≡ Max → slice_index_or left s false ≡ false
    → slice_index_or gone s false ≡ false → IsUnserved q gone left choices s

-- The choices of the states that have gone are as they were.
abbrev pub AreKept : List Bool → List (Option ℕ) → List (Option ℕ) → Type 0
AreKept gone choices later = (s : ℕ) → slice_index_or gone s false ≡ true
    → slice_index_or later s None ≡ slice_index_or choices s None
