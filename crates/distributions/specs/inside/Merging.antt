-- This module defines edges in the order of their successors, and adds up neighbouring edges to one successor.
use Rattle.std.specs.Prelude.{ℕ, ◌+◌, ◌≤◌, ◌==◌, List, [], ◌∷◌, if◌then◌else◌}
use Rattle.game_model.specs.declared.game.Edge.{Edge}
use Rattle.distributions.specs.Parts.{keep_edge}

-- This is an edge with more weight.
abbrev pub heavier : Edge → ℕ → Edge
heavier sum weight = record { to = sum.to; weight = sum.weight + weight }

-- This is the sum of the edges to one successor so far, and then the edges that follow, added up.
abbrev pub merged_from : Edge → List Edge → List Edge
merged_from sum [] = keep_edge sum.to sum.weight []
merged_from sum (e ∷ edges) = if e.to ==
    sum.to then merged_from (heavier sum e.weight) edges else keep_edge sum.to sum.weight (merged_from e edges)

-- The edges are in the order of their successors, the first of which is at least `least`.
abbrev pub StandFrom : ℕ → List Edge → Type 0
StandFrom least [] = Unit {0}
StandFrom least (e ∷ edges) = (least ≤ e.to) × StandFrom e.to edges
