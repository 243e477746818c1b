-- This module defines the lower table of a bracket, and what proves it.
use Rattle.std.specs.Prelude.{◌≡◌, ℕ, ◌≤◌, Bool, List, length, All, slice_index, Option}
use Rattle.game_model.specs.Query.{Query, states}
use Rattle.game_model.specs.Limits.{unit}
use Rattle.game_model.specs.Rounded.{IsBelow}
use Rattle.game_model.specs.Bounds.{IsNear}
use Rattle.lower_guess.specs.LowerGuess.{IsLowerGuess}

-- The lower table is the lower guess of the base, with the choices and the ranks that prove it. It is nowhere below the
-- base, and k-step values come as near to it as one likes.
pub record IsLowerTable (q : Query) (zero : List Bool) (base lower : List ℕ) (choices : List (Option ℕ))
    (ranks : List ℕ) : Type 0 where
  pub as_many : length lower ≡ states q
  pub units : All (λ v. v ≤ unit) lower
  pub near : IsNear q (slice_index lower)
  pub above : IsBelow q (slice_index base) (slice_index lower)
  -- If no guess is accepted, the choices are those that were given for the base.
  pub given : List (Option ℕ)
  pub guess : IsLowerGuess q zero base given lower choices ranks
