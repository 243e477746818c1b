-- These are rounded steps from any opening table.
use Rattle.std.specs.Prelude.{◌≡◌, ℕ, zero, suc, ◌<◌, List, length, slice_index}
use Rattle.game_model.specs.Query.{Query, states}
use Rattle.game_model.specs.Rounded.{down_step, up_step}

-- This is the table after k steps, one after another.
unfoldable pub steps_from : ((ℕ → ℕ) → ℕ → ℕ) → (ℕ → ℕ) → ℕ → ℕ → ℕ
steps_from step opening zero s = opening s
steps_from step opening (suc k) s = step (steps_from step opening k) s

-- This is the k-fold down step of an opening table.
abbrev pub down_from : Query → (ℕ → ℕ) → ℕ → ℕ → ℕ
down_from q opening k s = steps_from (down_step q) opening k s

-- This is the k-fold up step of an opening table.
abbrev pub up_from : Query → (ℕ → ℕ) → ℕ → ℕ → ℕ
up_from q opening k s = steps_from (up_step q) opening k s

-- At each state the lower table is the k-fold down step of the opening table, and the upper table is its k-fold up
-- step.
pub record IsSweep (q : Query) (opening : ℕ → ℕ) (steps : ℕ) (lower upper : List ℕ) : Type 0 where
  pub lowers : length lower ≡ states q
  pub uppers : length upper ≡ states q
  pub down : (s : ℕ) → s < states q → slice_index lower s ≡ down_from q opening steps s
  pub up : (s : ℕ) → s < states q → slice_index upper s ≡ up_from q opening steps s
