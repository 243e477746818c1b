-- This module defines when a verdict on an expected reward is right. A value is a fraction, or infinite, which is above
-- every number.
use Rattle.std.specs.Prelude.{ℕ, ◌*◌, ◌^◌, ◌<◌, ◌≤◌, Option, Some, None}
use Rattle.fractions.specs.Fraction.{Fraction}
use Rattle.reward_formula.specs.declared.formula.RewardBound.{RewardBound}
use Rattle.reward_formula.specs.declared.formula.RewardBound.TheVariants.{AtLeast, Above, AtMost, Below, AskMax, AskMin}
use Rattle.verdicts.specs.declared.verdict.Verdict.{Verdict}
use Rattle.verdicts.specs.declared.verdict.Verdict.TheVariants.{Yes, No, Undecided, Bracket}

-- The value is a fraction with a denominator, or infinite.
abbrev pub HasDenominator : Option Fraction → Type 0
HasDenominator (Some value) = 1 ≤ value.den
HasDenominator None = Unit {0}

-- The value is at least the lower bound, which is so many units, or infinite.
abbrev pub IsAtLeast : ℕ → Option ℕ → Option Fraction → Type 0
IsAtLeast places (Some lower) (Some value) = lower * value.den ≤ value.num * 10 ^ places
IsAtLeast places (Some lower) None = Unit {0}
IsAtLeast places None (Some value) = ⊥
IsAtLeast places None None = Unit {0}

-- The value is at most the upper bound, which is so many units, or missing. A missing one says nothing.
abbrev pub IsAtMost : ℕ → Option ℕ → Option Fraction → Type 0
IsAtMost places (Some upper) (Some value) = value.num * 10 ^ places ≤ upper * value.den
IsAtMost places (Some upper) None = ⊥
IsAtMost places None value = Unit {0}

-- The value is between the bounds.
pub record IsBetween (places : ℕ) (lower upper : Option ℕ) (value : Option Fraction) : Type 0 where
  pub divided : HasDenominator value
  pub low : IsAtLeast places lower value
  pub high : IsAtMost places upper value

-- The value meets the bound. A question for a value has no bound to meet.
abbrev pub IsMetBy : RewardBound → Option Fraction → Type 0
IsMetBy (AtLeast p) (Some value) = p.num * value.den ≤ value.num * p.den
IsMetBy (AtLeast p) None = Unit {0}
IsMetBy (Above p) (Some value) = p.num * value.den < value.num * p.den
IsMetBy (Above p) None = Unit {0}
IsMetBy (AtMost p) (Some value) = value.num * p.den ≤ p.num * value.den
IsMetBy (AtMost p) None = ⊥
IsMetBy (Below p) (Some value) = value.num * p.den < p.num * value.den
IsMetBy (Below p) None = ⊥
IsMetBy AskMax value = Unit {0}
IsMetBy AskMin value = Unit {0}

-- If the verdict is yes, the value meets the bound; if it is no, it does not. Other verdicts say nothing.
abbrev pub IsRight : RewardBound → Option Fraction → Verdict → Type 0
IsRight bound value Yes = IsMetBy bound value
IsRight bound value No = ¬ IsMetBy bound value
IsRight bound value Undecided = Unit {0}
IsRight bound value Bracket = Unit {0}

-- The first bound is at most the second one. One without a number is above every number.
abbrev pub IsUpTo : Option ℕ → Option ℕ → Type 0
IsUpTo (Some units) (Some others) = units ≤ others
IsUpTo (Some units) None = Unit {0}
IsUpTo None (Some others) = ⊥
IsUpTo None None = Unit {0}
