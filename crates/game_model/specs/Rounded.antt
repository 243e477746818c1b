-- This module defines the Bellman operator over tables of units, rounded down and up.
use Rattle.std.specs.Prelude.{◌≡◌, ◌≢◌, ℕ, zero, suc, ◌+◌, ◌-◌, ◌/◌, ◌<◌, ◌≤◌, true, false, List, length}
use Rattle.std.specs.Prelude.{slice_index_or, if◌then◌else◌}
use Rattle.game_model.specs.declared.game.Side.TheVariants.{Max, Min}
use Rattle.game_model.specs.Game.{Distribution, choices_of, no_distribution}
use Rattle.game_model.specs.Query.{Query, is_goal, is_dead, side_at}
use Rattle.game_model.specs.Limits.{unit}
use Rattle.game_model.specs.Values.{weighted_sum, bellman}

-- This is the value of a choice over a table, rounded down.
abbrev pub down_value : (ℕ → ℕ) → Distribution → ℕ
down_value table choice = weighted_sum table choice.edges / choice.total

-- This is the value of a choice over a table, rounded up.
abbrev pub up_value : (ℕ → ℕ) → Distribution → ℕ
up_value table choice = (weighted_sum table choice.edges + (choice.total - 1)) / choice.total

-- The down step of a table applies the Bellman operator and rounds down.
abbrev pub down_step : Query → (ℕ → ℕ) → ℕ → ℕ
down_step q table s = bellman q (choices_of q.game) unit (down_value table) s

-- The up step of a table applies the Bellman operator and rounds up, if `top` units are probability 1.
abbrev pub up_step_in : ℕ → Query → (ℕ → ℕ) → ℕ → ℕ
up_step_in top q table s = bellman q (choices_of q.game) top (up_value table) s

-- This is the up step of a table of units.
abbrev pub up_step : Query → (ℕ → ℕ) → ℕ → ℕ
up_step q table s = up_step_in unit q table s

-- This choice has the value `best`, and is the first that has it.
pub record IsFirstWith (value : Distribution → ℕ) (choices : List Distribution) (best first : ℕ) : Type 0 where
  pub inside : first < length choices
  pub gives : value (slice_index_or choices first no_distribution) ≡ best
  pub before : (c : ℕ) → c < first → value (slice_index_or choices c no_distribution) ≢ best

-- A down step names this choice: at a Max state that is neither goal nor dead the first choice with the value, else 0.
pub record DownChoice (q : Query) (table : ℕ → ℕ) (s value choice : ℕ) : Type 0 where
  pub chosen : is_goal q s ≡ false → is_dead q s ≡ false → side_at q s ≡ Max
      → IsFirstWith (down_value table) (choices_of q.game s) value choice
  pub goal : is_goal q s ≡ true → choice ≡ 0
  pub dead : is_dead q s ≡ true → choice ≡ 0
  pub least : side_at q s ≡ Min → choice ≡ 0

-- No entry is above the entry of the other table.
abbrev pub IsBelow : Query → (ℕ → ℕ) → (ℕ → ℕ) → Type 0
IsBelow q table other = (s : ℕ) → s < length q.game → table s ≤ other s

-- A table is settled if no state's down value is above its entry.
abbrev pub IsSettled : Query → (ℕ → ℕ) → Type 0
IsSettled q table = IsBelow q (down_step q table) table

-- A table is inductive if no state's up value is above its entry.
abbrev pub IsInductiveIn : ℕ → Query → (ℕ → ℕ) → Type 0
IsInductiveIn top q table = IsBelow q (up_step_in top q table) table

-- The table is inductive, in units.
abbrev pub IsInductive : Query → (ℕ → ℕ) → Type 0
IsInductive q table = IsInductiveIn unit q table

-- Iteration begins with this table.
abbrev pub opening : Query → ℕ → ℕ
opening q s = if is_goal q s then unit else 0

-- This is the result of r down steps from the opening table.
unfoldable pub down_steps : Query → ℕ → ℕ → ℕ
down_steps q zero s = opening q s
down_steps q (suc r) s = down_step q (down_steps q r) s
