-- A list of bounds gives a list of lower bounds and a list of upper bounds.
use Rattle.std.specs.Prelude.{ℕ, ◌≤◌, List, map}
use Rattle.game_model.specs.Limits.{unit}
use Rattle.fixed_bellman.specs.declared.bounds.Bounds.{Bounds}

-- These are the lower bounds.
abbrev pub lowers : List Bounds → List ℕ
lowers table = map (λ b. b.lower) table

-- These are the upper bounds.
abbrev pub uppers : List Bounds → List ℕ
uppers table = map (λ b. b.upper) table

-- Both bounds are at most the unit.
abbrev pub AreUnits : Bounds → Type 0
AreUnits b = (b.lower ≤ unit) × (b.upper ≤ unit)
