-- These definitions say what a quotient is, rounded down and up.
use Rattle.std.specs.Prelude.{◌≡◌, ℕ, ◌+◌, ◌-◌, ◌/◌, ◌≤◌}
use Rattle.game_model.specs.Game.{Distribution}
use Rattle.game_model.specs.Values.{weighted_sum}
use Rattle.fixed_bellman.specs.declared.quotient.Quotient.{Quotient}

-- This is the value of a choice in whole units, rounded toward zero.
abbrev pub rounded_down : Quotient → ℕ
rounded_down q = q.sum / q.total

-- This is the value of a choice in whole units, rounded away from zero.
abbrev pub rounded_up : Quotient → ℕ
rounded_up q = (q.sum + (q.total - 1)) / q.total

-- The quotient is between the values of a choice over two tables.
pub record IsBetween (q : Quotient) (old new : ℕ → ℕ) (choice : Distribution) : Type 0 where
  pub low : weighted_sum old choice.edges ≤ q.sum
  pub high : q.sum ≤ weighted_sum new choice.edges
  pub total : q.total ≡ choice.total
