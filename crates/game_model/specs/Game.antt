-- This module defines what contracts see of a choice and of a game, and the facts that hold for each of them.
use Rattle.std.specs.Prelude.{◌≡◌, ℕ, ◌-◌, ◌<◌, ◌≤◌, ◌==◌, if◌then◌else◌, List, [], length, map, sum_by, take, drop}
use Rattle.std.specs.Prelude.{flat_map, All, slice_index, slice_index_or}
use Rattle.game_model.specs.declared.game.Edge.{Edge}
use Rattle.game_model.specs.Limits.{most_states, most_choices, total_bound}

-- A choice has a total, and its edges are in the order of their successors.
pub record Distribution : Type 0 where
  pub total : ℕ
  pub edges : List Edge

-- These are the successors of edges, in order.
abbrev pub destinations : List Edge → List ℕ
destinations edges = map (λ e. e.to) edges

-- The weight of a successor is the sum of the weights of the edges that lead there.
abbrev pub weight_to : List Edge → ℕ → ℕ
weight_to edges to = sum_by (λ e. if e.to == to then e.weight else 0) edges

-- This is the sum of all weights.
abbrev pub total_of : List Edge → ℕ
total_of edges = sum_by (λ e. e.weight) edges

-- Each edge leads to a greater state than the edges before it.
abbrev pub IsRising : List Edge → Type 0
IsRising edges = (i j : ℕ) → i < j → j < length edges
    → slice_index (destinations edges) i < slice_index (destinations edges) j

-- These facts hold for every choice.
pub record IsDistribution (distribution : Distribution) : Type 0 where
  pub some : 0 < length distribution.edges
  pub rising : IsRising distribution.edges
  pub weights : All (λ e. 1 ≤ e.weight) distribution.edges
  pub sums : total_of distribution.edges ≡ distribution.total
  pub small : distribution.total < total_bound

-- These are the choices of a state.
abbrev pub choices_of : List (List Distribution) → ℕ → List Distribution
choices_of game s = slice_index_or game s []

-- This choice has no edges. No game has it.
abbrev pub no_distribution : Distribution
no_distribution = record { total = 0; edges = [] }

-- This is the choice at a place of a list.
abbrev pub choice_among : List Distribution → ℕ → Distribution
choice_among choices c = slice_index_or choices c no_distribution

-- This is a choice of a state.
abbrev pub choice_of : List (List Distribution) → ℕ → ℕ → Distribution
choice_of game s c = choice_among (choices_of game s) c

-- This edge has weight 0. No choice has it.
abbrev pub no_edge : Edge
no_edge = record { to = 0; weight = 0 }

-- This is an edge of a choice.
abbrev pub edge_in : Distribution → ℕ → Edge
edge_in choice p = slice_index_or choice.edges p no_edge

-- This is an edge of a choice of a state.
abbrev pub edge_of : List (List Distribution) → ℕ → ℕ → ℕ → Edge
edge_of game s c p = edge_in (choice_of game s c) p

-- The states below `s` have this many choices together.
abbrev pub choices_below : List (List Distribution) → ℕ → ℕ
choices_below game s = sum_by length (take s game)

-- The states below `s` have this many edges together.
abbrev pub edges_below : List (List Distribution) → ℕ → ℕ
edges_below game s = sum_by (λ choices. sum_by (λ m. length m.edges) choices) (take s game)

-- These are the successors of all edges of these choices, in order.
abbrev pub all_successors : List Distribution → List ℕ
all_successors choices = flat_map (λ m. destinations m.edges) choices

-- These are the successors of all edges of the states from `from` up to and not including `to`, in order.
abbrev pub successors_between : List (List Distribution) → ℕ → ℕ → List ℕ
successors_between game from to = flat_map all_successors (take (to - from) (drop from game))

-- These facts hold for every game.
pub record IsGame (game : List (List Distribution)) : Type 0 where
  pub some : 0 < length game
  pub few : length game ≤ most_states
  pub chosen : (s : ℕ) → s < length game → 0 < length (choices_of game s)
  pub bounded : (s : ℕ) → s < length game → length (choices_of game s) ≤ most_choices
  pub distribution : (s c : ℕ) → s < length game → c < length (choices_of game s) → IsDistribution (choice_of game s c)
  pub inside : (s c : ℕ) → s < length game → c < length (choices_of game s)
      → All (λ e. e.to < length game) (choice_of game s c).edges
