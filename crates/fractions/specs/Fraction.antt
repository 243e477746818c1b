-- This module defines what contracts see of a fraction, and the order of fractions.
use Rattle.std.specs.Prelude.{◌≡◌, ◌≤◌, ℕ, ◌*◌, ◌-◌, ◌/◌}
use Rattle.std.specs.Int.{IsGcd}
use Rattle.std.specs.Ordering.{nat_cmp}
use Rattle.std.specs.declared.cmp.Ordering.{Ordering}
use Rattle.fractions.specs.Limits.{finest, most_value}
use Rattle.fractions.specs.Divisors.{gcd}

-- A fraction is a numerator over a denominator.
pub record Fraction : Type 0 where
  pub num : ℕ
  pub den : ℕ

-- These facts hold for every fraction of the program.
pub record IsFraction (f : Fraction) : Type 0 where
  pub lowest : IsGcd f.num f.den 1
  pub positive : 1 ≤ f.den
  pub fine : f.den ≤ finest
  pub small : f.num ≤ most_value * f.den

-- Two fractions have the same value.
abbrev pub SameValue : Fraction → Fraction → Type 0
SameValue f g = f.num * g.den ≡ g.num * f.den

-- This is the fraction of the same value in lowest terms; 0 is 0 over 1.
abbrev pub lowest : Fraction → Fraction
lowest f = record { num = f.num / gcd f.num f.den; den = f.den / gcd f.num f.den }

-- This is 1 less a number that is at most 1.
abbrev pub rest_of : Fraction → Fraction
rest_of f = record { num = f.den - f.num; den = f.den }

-- This is the order of two fractions.
abbrev pub fraction_cmp : Fraction → Fraction → Ordering
fraction_cmp f g = nat_cmp (f.num * g.den) (g.num * f.den)
