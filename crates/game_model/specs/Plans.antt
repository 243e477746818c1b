-- This module defines the values for a side that plays a plan, which is a memoryless strategy.
use Rattle.std.specs.Prelude.{ℕ, Bool, true, false, List, length, slice_index_or, if◌then◌else◌, Option, None}
use Rattle.std.specs.Prelude.{unwrap_or, nat_lt, take, drop}
use Rattle.game_model.specs.declared.game.Side.{Side}
use Rattle.game_model.specs.declared.game.Side.TheVariants.{Max, Min}
use Rattle.game_model.specs.Game.{Distribution, choices_of}
use Rattle.game_model.specs.Query.{Query, side_at}
use Rattle.game_model.specs.Values.{numerator_of}

-- This says whether two sides are the same.
abbrev pub same_side : Side → Side → Bool
same_side Max Max = true
same_side Max Min = false
same_side Min Max = false
same_side Min Min = true

-- A plan gives a choice to each state of a side. A choice that is missing or out of range counts as choice 0.
abbrev pub planned_place : List (Option ℕ) → ℕ → ℕ → ℕ
planned_place plan s count = let place =
    unwrap_or (slice_index_or plan s None) 0 in if nat_lt place count then place else 0

-- These are the choices of a state if one side plays its plan: a state of that side has only the planned choice.
abbrev pub planned : Query → Side → List (Option ℕ) → ℕ → List Distribution
planned q side plan s =
    let choices = choices_of q.game s in
    if same_side (side_at q s) side then take 1 (drop (planned_place plan s (length choices)) choices) else choices

-- These are the k-step numerators under a plan of a side.
abbrev pub numerator_under : Query → Side → List (Option ℕ) → ℕ → ℕ → ℕ
numerator_under q side plan k s = numerator_of q (planned q side plan) k s
