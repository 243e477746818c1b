-- This module defines the states that the outer set has lost.
use Rattle.std.specs.Prelude.{◌≡◌, ℕ, ◌<◌, Bool, true, false, List, length, slice_index_or, count_by}
use Rattle.game_model.specs.Query.{Query, states, is_dead}
use Rattle.almost_sure.specs.Values.{IsAway}

-- This many states are marked.
abbrev pub how_many : List Bool → ℕ
how_many marks = count_by (λ b. b) marks

-- These states are gone, and the dead ones are among them. Their values stay away from 1, by one over the denominator
-- to the power of their number.
pub record IsGone (q : Query) (marks : List Bool) : Type 0 where
  pub many : length marks ≡ states q
  pub deads : (s : ℕ) → s < states q → is_dead q s ≡ true → slice_index_or marks s false ≡ true
  pub away : (s : ℕ) → s < states q → slice_index_or marks s false ≡ true → IsAway q (how_many marks) s
