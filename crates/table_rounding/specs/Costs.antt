-- A choice may cost some units.
use Rattle.std.specs.Prelude.{ℕ, ◌+◌, List, Option, Some, None, slice_index}
use Rattle.game_model.specs.Game.{Distribution, choices_below}

-- The list has the cost of each choice, state by state. Without a list, and behind its end, a choice costs nothing.
abbrev pub cost_in : Option (List ℕ) → List (List Distribution) → ℕ → ℕ → ℕ
cost_in None game s c = 0
cost_in (Some costs) game s c = slice_index costs (choices_below game s + c)
