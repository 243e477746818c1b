-- This module defines what is counted.
use Rattle.std.specs.Prelude.{ℕ, List, [], ◌∷◌, ◌==◌, Bool, true, false}
use Rattle.strategies.specs.Plays.{Play}

-- This play comes through these states in `ways` ways.
abbrev pub in_ways : ℕ → List ℕ → Play
in_ways ways through = record { through = through; ways = ways }

-- These are the plays of three turns of the coin loop, of 4 * 4 * 4 ways.
abbrev pub three_turns : List Play
three_turns =
    in_ways 8 (0 ∷ 0 ∷ 0 ∷ 0 ∷ [])
    ∷ in_ways 4 (0 ∷ 0 ∷ 0 ∷ 1 ∷ [])
    ∷ in_ways 4 (0 ∷ 0 ∷ 0 ∷ 2 ∷ [])
    ∷ in_ways 8 (0 ∷ 0 ∷ 1 ∷ 1 ∷ [])
    ∷ in_ways 8 (0 ∷ 0 ∷ 2 ∷ 2 ∷ [])
    ∷ in_ways 16 (0 ∷ 1 ∷ 1 ∷ 1 ∷ [])
    ∷ in_ways 16 (0 ∷ 2 ∷ 2 ∷ 2 ∷ []) ∷ []

-- These are the plays of three turns of give and take, of 4 * 4 * 4 ways, if the maximiser alternates and the minimiser
-- answers.
abbrev pub three_answered : List Play
three_answered = in_ways 16 (0 ∷ 1 ∷ 0 ∷ 1 ∷ []) ∷ in_ways 16 (0 ∷ 1 ∷ 0 ∷ 2 ∷ []) ∷ in_ways 32 (0 ∷ 1 ∷ 3 ∷ 2 ∷ [])
    ∷ []

-- These are the plays of one turn of give and take, of 2 * 4 ways, if the maximiser throws a die of two faces. A play
-- is listed once for each throw.
abbrev pub one_throw : List Play
one_throw = in_ways 2 (0 ∷ 1 ∷ []) ∷ in_ways 2 (0 ∷ 2 ∷ []) ∷ in_ways 4 (0 ∷ 1 ∷ []) ∷ []

-- This state of the coin loop is lost.
abbrev pub coin_lost : List Bool
coin_lost = false ∷ false ∷ true ∷ []

-- This set has one state.
abbrev pub only : ℕ → ℕ → Bool
only s t = t == s
