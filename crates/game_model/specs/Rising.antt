-- This module defines when the successors of edges rise, from one edge to the next.
use Rattle.std.specs.Prelude.{ℕ, ◌+◌, ◌≤◌, List, [], ◌∷◌}
use Rattle.game_model.specs.declared.game.Edge.{Edge}

-- The edges lead to rising successors, the first of them at least `least`, and none has weight 0.
abbrev pub RiseFrom : ℕ → List Edge → Type 0
RiseFrom least [] = Unit {0}
RiseFrom least (e ∷ edges) = (least ≤ e.to) × (1 ≤ e.weight) × RiseFrom (e.to + 1) edges
