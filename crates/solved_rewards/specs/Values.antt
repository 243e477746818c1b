-- This module defines the values that a solver's candidates give, and which states need a choice or a reply.
use Rattle.std.specs.Prelude.{◌≡◌, ℕ, ◌<◌, Bool, true, false, List, slice_index, min, if◌then◌else◌}
use Rattle.game_model.specs.declared.game.Side.TheVariants.{Max, Min}
use Rattle.game_model.specs.Limits.{unit}
use Rattle.game_model.specs.Query.{Query, is_goal, side_at}
use Rattle.expected_rewards.specs.Tables.{is_finite}

-- A goal has 0, and so has a state whose value is no number. Another state has the candidate, of at most the unit, or 0
-- if the candidate has no entry.
abbrev pub value_of : Query → List Bool → List ℕ → ℕ → ℕ
value_of q numbers candidate s = if is_goal q s then 0 else
    (if is_finite numbers s then min (slice_index candidate s) unit else 0)

-- The state needs a choice of the maximiser: its lower value is infinite or above 0.
pub record NeedsChoice (q : Query) (finite : List Bool) (lower : List ℕ) (s : ℕ) : Type 0 where
  pub goal : is_goal q s ≡ false
  pub own : side_at q s ≡ Max
  pub some : is_finite finite s ≡ true → 0 < slice_index lower s

-- The state needs a reply of the minimiser: its upper value is a number.
pub record NeedsReply (q : Query) (bounded : List Bool) (s : ℕ) : Type 0 where
  pub goal : is_goal q s ≡ false
  pub own : side_at q s ≡ Min
  pub number : is_finite bounded s ≡ true
