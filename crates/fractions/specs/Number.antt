-- This module defines the numbers that texts spell, as fractions in lowest terms.
use Rattle.std.specs.Prelude.{◌≡◌, ℕ, ◌+◌, ◌*◌, ◌^◌, ◌==◌, ◌≤◌, nat_lt, false, List, ◌++◌, length}
use Rattle.std.specs.Prelude.{Option, Some, None, Result, Ok, Err, if◌then◌else◌}
use Rattle.text_lines.specs.Text.{value_onto}
use Rattle.numerals.specs.Spelling.{Spelling, Decimal, Quotient, Spells, is_long, spelling_of}
use Rattle.fractions.specs.declared.number.NumberFault.{NumberFault}
use Rattle.fractions.specs.declared.number.NumberFault.TheVariants.{NotANumber, TooManyDigits, ZeroDenominator}
use Rattle.fractions.specs.declared.number.NumberFault.TheVariants.{TooFine, TooLarge}
use Rattle.fractions.specs.Limits.{finest, most_value}
use Rattle.fractions.specs.Fraction.{Fraction, IsFraction, SameValue, lowest}

-- 1. These definitions give the value of a spelling.

-- This is the value of the digits, not in lowest terms.
abbrev pub value_of : Spelling → Fraction
value_of (Decimal front back exponent) = record {
  num = value_onto 0 (front ++ back) * 10 ^ (if exponent.below then 0 else value_onto 0 exponent.digits);
  den = 10 ^ (length back + (if exponent.below then value_onto 0 exponent.digits else 0));
}
value_of (Quotient above below) = record { num = value_onto 0 above; den = value_onto 0 below }

-- The text spells this fraction.
pub record DenotesNumber (text : List ℕ) (f : Fraction) : Type 0 where
  pub spelling : Spelling
  pub spelled : Spells text spelling
  pub short : is_long spelling ≡ false
  pub divided : 1 ≤ (value_of spelling).den
  pub value : SameValue f (value_of spelling)
  pub fraction : IsFraction f

-- 2. These definitions give the fraction or the first fault, by cases on the text.

-- This is a fraction in lowest terms if it is in range, or its first fault.
abbrev pub in_range : Fraction → Result Fraction NumberFault
in_range f = if nat_lt finest f.den then Err TooFine else
    (if nat_lt (most_value * f.den) f.num then Err TooLarge else Ok f)

-- This is the fraction of the same value in lowest terms, or its first fault: its denominator is 0, or it is out of
-- range.
abbrev pub fraction_said : Fraction → Result Fraction NumberFault
fraction_said f = if f.den == 0 then Err ZeroDenominator else in_range (lowest f)

-- This is the fraction that a spelling gives, or its first fault. Without a spelling the text is no number.
abbrev pub spelling_said : Option Spelling → Result Fraction NumberFault
spelling_said None = Err NotANumber
spelling_said (Some spelling) = if is_long spelling then Err TooManyDigits else fraction_said (value_of spelling)

-- This is the fraction that a text spells, or its first fault.
abbrev pub number_said : List ℕ → Result Fraction NumberFault
number_said text = spelling_said (spelling_of text)
