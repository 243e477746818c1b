-- This module defines when bounds of a value leave a threshold open.
use Rattle.std.specs.Prelude.{ℕ, ◌+◌, ◌-◌, ◌*◌, ◌^◌, ◌<◌, ◌≤◌, Bool, List}
use Rattle.game_model.specs.Limits.{unit}
use Rattle.game_model.specs.Query.{Query}
use Rattle.game_model.specs.Values.{denominator, numerator}
use Rattle.game_model.specs.Rounded.{down_steps}
use Rattle.game_model.specs.Dual.{open_numerator, swapped}
use Rattle.fractions.specs.Fraction.{Fraction}
use Rattle.formula_reader.specs.declared.formula.Bound.{Bound}
use Rattle.formula_reader.specs.declared.formula.Bound.TheVariants.{AtLeast, Above, AtMost, Below, AskMax, AskMin}

-- The number n/d, in units, less r units, is below p.
abbrev pub IsBelowLess : Fraction → ℕ → ℕ → ℕ → Type 0
IsBelowLess p n d r = n * p.den < (p.num * unit + r * p.den) * d

-- The number n/d, in units, less r units, is at most p.
abbrev pub IsAtMostLess : Fraction → ℕ → ℕ → ℕ → Type 0
IsAtMostLess p n d r = n * p.den ≤ (p.num * unit + r * p.den) * d

-- The number n/d, in units, plus r units, is at least p.
abbrev pub IsAtLeastMore : Fraction → ℕ → ℕ → ℕ → Type 0
IsAtLeastMore p n d r = p.num * unit * d ≤ (n + r * d) * p.den

-- The number n/d, in units, plus r units, is above p.
abbrev pub IsAboveMore : Fraction → ℕ → ℕ → ℕ → Type 0
IsAboveMore p n d r = p.num * unit * d < (n + r * d) * p.den

-- A lower bound of n/d less r units and an upper bound of m/d plus r units, where n/d and m/d are in units, leave the
-- threshold of the bound open.
abbrev pub LeavesOpen : Bound → ℕ → ℕ → ℕ → ℕ → Type 0
LeavesOpen (AtLeast p) n m d r = IsBelowLess p n d r × IsAtLeastMore p m d r
LeavesOpen (Above p) n m d r = IsAtMostLess p n d r × IsAboveMore p m d r
LeavesOpen (AtMost p) n m d r = IsAtMostLess p n d r × IsAboveMore p m d r
LeavesOpen (Below p) n m d r = IsBelowLess p n d r × IsAtLeastMore p m d r
LeavesOpen AskMax n m d r = ⊥
LeavesOpen AskMin n m d r = ⊥

-- A lower and an upper bound, in units, leave the threshold open at a state. So do this many down steps of the question
-- and of the swapped question, and so do the values of as many steps, with a unit for each step.
pub record IsLeftOpen (q : Query) (zero : List Bool) (bound : Bound) (steps : ℕ) (lower upper : ℕ → ℕ)
    (s : ℕ) : Type 0 where
  pub printed : LeavesOpen bound (lower s) (upper s) 1 0
  pub swept : LeavesOpen bound (down_steps q steps s) (unit - down_steps (swapped q zero) steps s) 1 0
  pub near : LeavesOpen bound (unit * numerator q steps s) (unit * open_numerator q zero steps s)
      (denominator q.game ^ steps) steps

-- A lower and an upper bound, in units, leave the threshold open. So does the value n/d of exactly this many steps,
-- with a unit for each step.
pub record IsLeftOpenBy (bound : Bound) (steps n d lower upper : ℕ) : Type 0 where
  pub printed : LeavesOpen bound lower upper 1 0
  pub near : LeavesOpen bound (unit * n) (unit * n) d steps
