-- This module defines the states of value 0, and the question of the other side.
use Rattle.std.specs.Prelude.{◌≡◌, ℕ, zero, suc, ◌*◌, ◌/◌, ◌^◌, ◌<◌, ◌≤◌, Bool, true, false, List, length}
use Rattle.std.specs.Prelude.{slice_index_or, if◌then◌else◌, map}
use Rattle.game_model.specs.declared.game.Side.{Side}
use Rattle.game_model.specs.declared.game.Side.TheVariants.{Max, Min}
use Rattle.game_model.specs.Game.{choices_of}
use Rattle.game_model.specs.Query.{Query}
use Rattle.game_model.specs.Values.{weighted_sum, bellman, denominator, numerator}

-- This is the same question with other dead states.
abbrev pub with_deads : Query → List Bool → Query
with_deads q deads = record q { deads = deads }

-- A state is marked if its every k-step value is 0; each other state has a positive k-step value.
pub record IsZeroSet (q : Query) (marks : List Bool) : Type 0 where
  pub as_many : length marks ≡ length q.game
  pub marked : (s : ℕ) → s < length q.game → slice_index_or marks s false ≡ true → (k : ℕ) → numerator q k s ≡ 0
  pub unmarked : (s : ℕ) → s < length q.game → slice_index_or marks s false ≡ false → (k : ℕ) × (1 ≤ numerator q k s)

-- The value of not being lost after k steps is this number over the k-th power of the denominator.
unfoldable pub open_numerator : Query → List Bool → ℕ → ℕ → ℕ
open_numerator q lost zero s = if slice_index_or lost s false then 0 else 1
open_numerator q lost (suc k) s =
    bellman (with_deads q lost) (choices_of q.game) (denominator q.game ^ suc k)
    (λ choice. denominator q.game / choice.total * weighted_sum (open_numerator q lost k) choice.edges) s

-- This is the opponent of a side.
abbrev pub other_side : Side → Side
other_side Max = Min
other_side Min = Max

-- This is the question of the other side: its goals are the lost states, and its dead states are the goals.
abbrev pub swapped : Query → List Bool → Query
swapped q lost = record { game = q.game; sides = map other_side q.sides; goals = lost; deads = q.goals }
