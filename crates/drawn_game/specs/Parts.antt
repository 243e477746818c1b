-- This module defines the parts of a choice, which are edges in the order in which they were drawn, and the edges that
-- they add up to.
use Rattle.std.specs.Prelude.{ℕ, nat_lt, List, map, filter}
use Rattle.std.specs.List.{range_with_len}
use Rattle.game_model.specs.declared.game.Edge.{Edge}
use Rattle.game_model.specs.Game.{Distribution, weight_to, total_of}

-- The parts add up to these edges: one edge to each of n states that has some weight, in the order of the states.
unfoldable pub added_up : ℕ → List Edge → List Edge
added_up n parts = filter (λ e. nat_lt 0 e.weight) (map (λ to. record { to = to; weight = weight_to parts to })
    (range_with_len 0 n))

-- This is the choice of these parts in a game of n states.
abbrev pub choice_of_parts : ℕ → List Edge → Distribution
choice_of_parts n parts = record { total = total_of parts; edges = added_up n parts }
