-- This module defines how a part is added to edges.
use Rattle.std.specs.Prelude.{◌+◌, ◌==◌, nat_lt, List, [], ◌∷◌, if◌then◌else◌}
use Rattle.game_model.specs.declared.game.Edge.{Edge}

-- One more part is added to edges in the order of their successors.
abbrev pub with_part : List Edge → Edge → List Edge
with_part [] part = part ∷ []
with_part (e ∷ edges) part =
    if nat_lt part.to e.to then part ∷ e ∷ edges
    else (if part.to == e.to then record { to = e.to; weight = e.weight + part.weight } ∷ edges else e
    ∷ with_part edges part)
