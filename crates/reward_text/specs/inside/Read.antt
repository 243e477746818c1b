-- The line of a state is read, and kept.
use Rattle.std.specs.Prelude.{ℕ, Bool, true, false, List, Option, Some, None, Result}
use Rattle.plan_text.specs.declared.fault.PlanFault.{PlanFault}
use Rattle.plan_text.specs.Parts.{first_said_by}
use Rattle.reward_text.specs.Entries.{RewardEntry}
use Rattle.reward_text.specs.Said.{reward_line_said}

-- The first of these lines says an entry of this state, and the other lines follow.
abbrev pub first_reward : ℕ → ℕ → ℕ → List (List ℕ) → Result (RewardEntry × List (List ℕ)) PlanFault
first_reward places = first_said_by (reward_line_said places)

-- The value is a number.
abbrev pub is_number : Option ℕ → Bool
is_number None = false
is_number (Some units) = true

-- These are the units of a value, or 0 where it is no number.
abbrev pub units_or_zero : Option ℕ → ℕ
units_or_zero None = 0
units_or_zero (Some units) = units
