-- This module defines the plans and the values of the game of give and take.
use Rattle.std.specs.Prelude.{ℕ, List, [], ◌∷◌, Option, Some, None}

-- In the game of give and take, this is the maximiser's plan to be bold.
abbrev pub bold_plan : List (Option ℕ)
bold_plan = Some 0 ∷ None ∷ None ∷ None ∷ []

-- In the game of give and take, this is the minimiser's plan to be harsh.
abbrev pub harsh_plan : List (Option ℕ)
harsh_plan = None ∷ Some 1 ∷ None ∷ None ∷ []

-- These are the values of the four states of the game of give and take, in thirds.
abbrev pub thirds : List ℕ
thirds = 2 ∷ 1 ∷ 3 ∷ 0 ∷ []
