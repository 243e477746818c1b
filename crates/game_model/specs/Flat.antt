-- A game lies in flat lists: where the choices of each state begin, where the edges of each choice begin, the kept
-- totals (0 is kept for a total of 2^64 or more), the successors and the weights.
use Rattle.std.specs.Prelude.{◌≡◌, ℕ, ◌+◌, ◌-◌, ◌*◌, ◌^◌, ◌<◌, ◌≤◌, ◌==◌, nat_lt, if◌then◌else◌, List, length}
use Rattle.std.specs.Prelude.{slice_index}
use Rattle.game_model.specs.declared.game.Edge.{Edge}
use Rattle.game_model.specs.Game.{Distribution, IsDistribution, total_of}
use Rattle.game_model.specs.Span.{span}

-- This is the edge at a place.
abbrev pub edge_at : List ℕ → List ℕ → List ℕ → ℕ → Edge
edge_at to low high i = record { to = slice_index to i; weight = slice_index low i + 2 ^ 64 * slice_index high i }

-- This number is kept for a total: the total if it is below 2^64, else 0.
abbrev pub kept_total : ℕ → ℕ
kept_total total = if nat_lt total (2 ^ 64) then total else 0

-- This is the total of a choice with these edges, for which `kept` is kept: the sum of the weights if that is 0.
unfoldable pub total_with : ℕ → List Edge → ℕ
total_with kept edges = if kept == 0 then total_of edges else kept

-- This is the choice with these edges, for whose total `kept` is kept.
abbrev pub choice_with : ℕ → List Edge → Distribution
choice_with kept edges = record { total = total_with kept edges; edges = edges }

-- This is the choice at a place.
abbrev pub distribution_at : List ℕ → List ℕ → List ℕ → List ℕ → List ℕ → ℕ → Distribution
distribution_at first_edge totals to low high c =
    choice_with (slice_index totals c)
    (span (edge_at to low high) (slice_index first_edge c) (slice_index first_edge (c + 1) - slice_index first_edge c))

-- These are the choices of the state at a place.
abbrev pub choices_at : List ℕ → List ℕ → List ℕ → List ℕ → List ℕ → List ℕ → ℕ → List Distribution
choices_at first_choice first_edge totals to low high s =
    span (distribution_at first_edge totals to low high) (slice_index first_choice s)
    (slice_index first_choice (s + 1) - slice_index first_choice s)

-- These are the states that have ended.
abbrev pub game_at : List ℕ → List ℕ → List ℕ → List ℕ → List ℕ → List ℕ → List (List Distribution)
game_at first_choice first_edge totals to low high =
    span (choices_at first_choice first_edge totals to low high) 0 (length first_choice - 1)

-- This is the last entry.
abbrev pub last_of : List ℕ → ℕ
last_of xs = slice_index xs (length xs - 1)

-- These are the choices of the state that is being built.
abbrev pub under_way_at : List ℕ → List ℕ → List ℕ → List ℕ → List ℕ → List ℕ → List Distribution
under_way_at first_choice first_edge totals to low high =
    span (distribution_at first_edge totals to low high) (last_of first_choice)
    (length first_edge - 1 - last_of first_choice)

-- The first entry is 0, and each entry is at most the next and at most the last.
pub record IsAscending (xs : List ℕ) : Type 0 where
  pub some : 0 < length xs
  pub begins : slice_index xs 0 ≡ 0
  pub ends : (i : ℕ) → i + 1 < length xs → slice_index xs i ≤ slice_index xs (i + 1)
  pub last : (i : ℕ) → i < length xs → slice_index xs i ≤ last_of xs

-- The choices and the edges begin within the lists, and none begins after the next. The lists may be longer.
pub record IsLaidOut (first_choice first_edge totals to low : List ℕ) : Type 0 where
  pub states : IsAscending first_choice
  pub choices : IsAscending first_edge
  pub enough : length first_edge ≤ length totals + 1
  pub state_within : last_of first_choice < length first_edge
  pub to_within : last_of first_edge ≤ length to
  pub low_within : last_of first_edge ≤ length low

-- The lists are laid out, and each choice is a distribution.
pub record AreFlatLists (first_choice first_edge totals to low high : List ℕ) : Type 0 where
  pub laid_out : IsLaidOut first_choice first_edge totals to low
  pub distributions : (c : ℕ) → c + 1 < length first_edge
      → IsDistribution (distribution_at first_edge totals to low high c)
