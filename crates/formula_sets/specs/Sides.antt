-- This module defines the side that chooses at each state.
use Rattle.std.specs.Prelude.{ℕ, Bool, not, List, [], ◌++◌, Option, Some, None, bytes_eq, find, if◌then◌else◌}
use Rattle.std.specs.List.{list_any}
use Rattle.game_model.specs.declared.game.Side.{Side}
use Rattle.game_model.specs.declared.game.Side.TheVariants.{Max, Min}
use Rattle.game_model.specs.Dual.{other_side}
use Rattle.label_lines.specs.Owners.{Ownership, owner_of, is_player}
use Rattle.formula_reader.specs.declared.formula.Bound.{Bound}
use Rattle.formula_reader.specs.declared.formula.Bound.TheVariants.{AtLeast, Above, AtMost, Below, AskMax, AskMin}
use Rattle.formula_reader.specs.Formula.{State, True, False, Label, Not, And, Or, Implies, Inner}

-- This is the side of a coalition, which tries to meet the bound, or to reach what is asked.
abbrev pub coalition_side : Bound → Side
coalition_side (AtLeast p) = Max
coalition_side (Above p) = Max
coalition_side (AtMost p) = Min
coalition_side (Below p) = Min
coalition_side AskMax = Max
coalition_side AskMin = Min

-- This is the side of all states if no coalition is named: a bound has to be met whatever is chosen.
abbrev pub common_side : Bound → Side
common_side (AtLeast p) = Min
common_side (Above p) = Min
common_side (AtMost p) = Max
common_side (Below p) = Max
common_side AskMax = Max
common_side AskMin = Min

-- The name is one of these.
abbrev pub is_member : List (List ℕ) → List ℕ → Bool
is_member names name = list_any (λ other. bytes_eq name other) names

-- This is the side that chooses at a state.
abbrev pub side_of : Option (List (List ℕ)) → Bound → Ownership → ℕ → Side
side_of None bound owners s = common_side bound
side_of (Some names) bound owners s = if is_member names (owner_of owners s) then coalition_side bound else other_side
    (coalition_side bound)

-- These are the players of a coalition.
abbrev pub members_of : Option (List (List ℕ)) → List (List ℕ)
members_of None = []
members_of (Some names) = names

-- These are the players that a state formula names, in the order of the text.
abbrev pub players_in : State → List (List ℕ)
players_in True = []
players_in False = []
players_in (Label name) = []
players_in (Not x) = players_in x
players_in (And x y) = players_in x ++ players_in y
players_in (Or x y) = players_in x ++ players_in y
players_in (Implies x y) = players_in x ++ players_in y
players_in (Inner team bound kind left right) = members_of team ++ (players_in left ++ players_in right)

-- This is the first of these players that is unknown.
abbrev pub unknown_player : Ownership → List (List ℕ) → Option (List ℕ)
unknown_player owners names = find (λ name. not (is_player owners name)) names
