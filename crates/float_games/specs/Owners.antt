-- This module defines which sides own nodes.
use Rattle.std.specs.Prelude.{Bool, List}
use Rattle.std.specs.Bool.{beq}
use Rattle.std.specs.List.{list_any}

-- This side is among the owners: true is the maximiser.
abbrev pub is_among : Bool → List Bool → Bool
is_among side owners = list_any (λ owner. beq owner side) owners
