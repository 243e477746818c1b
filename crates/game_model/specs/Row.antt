-- A row in flat lists holds the choices of a state, between the bounds of their edges.
use Rattle.std.specs.Prelude.{ℕ, ◌+◌, ◌-◌, ◌<◌, ◌≤◌, List, length, slice_index}
use Rattle.game_model.specs.Game.{Distribution, IsDistribution}
use Rattle.game_model.specs.Limits.{most_choices}
use Rattle.game_model.specs.Span.{span}
use Rattle.game_model.specs.Flat.{distribution_at}

-- These are the choices between the bounds.
abbrev pub row_at : List ℕ → List ℕ → List ℕ → List ℕ → List ℕ → List Distribution
row_at bounds totals to low high = span (distribution_at bounds totals to low high) 0 (length bounds - 1)

-- Each bound lies within the lists and is at most the next bound, and each choice is a distribution.
pub record IsRow (bounds totals to low high : List ℕ) : Type 0 where
  pub some : 1 < length bounds
  pub few : length bounds ≤ most_choices + 1
  pub enough : length bounds ≤ length totals + 1
  pub ends : (c : ℕ) → c + 1 < length bounds → slice_index bounds c ≤ slice_index bounds (c + 1)
  pub to_within : (c : ℕ) → c < length bounds → slice_index bounds c ≤ length to
  pub low_within : (c : ℕ) → c < length bounds → slice_index bounds c ≤ length low
  pub distributions : (c : ℕ) → c + 1 < length bounds → IsDistribution (distribution_at bounds totals to low high c)
