-- This definition says that the down step of a state is above its entry.
use Rattle.std.specs.Prelude.{◌≡◌, ℕ, ◌<◌, ◌≤◌}
use Rattle.game_model.specs.Query.{Query}
use Rattle.game_model.specs.Limits.{unit}
use Rattle.game_model.specs.Rounded.{down_step, DownChoice}

-- The value is the down step and is above the entry. The choice is the one that the down step names.
pub record Raises (q : Query) (table : ℕ → ℕ) (s value choice : ℕ) : Type 0 where
  pub step : value ≡ down_step q table s
  pub above : table s < value
  pub units : value ≤ unit
  pub named : DownChoice q table s value choice
