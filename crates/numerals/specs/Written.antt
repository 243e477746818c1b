-- This module defines what contracts see of a number as it is written.
use Rattle.std.specs.Prelude.{◌≡◌, true}
use Rattle.text_lines.specs.Text.{all_digits}
use Rattle.numerals.specs.declared.spelling.Power.{Power}
use Rattle.numerals.specs.declared.spelling.Written.{Written}
use Rattle.numerals.specs.declared.spelling.Written.TheVariants.{Point, Line}
use Rattle.numerals.specs.Spelling.{Exponent, Spelling, Decimal, Quotient}

-- This is the exponent of a number as it is written.
abbrev pub exponent_in : Power → Exponent
exponent_in power = record { below = power.below; digits = power.digits.now }

-- This is the spelling of a number as it is written.
abbrev pub spelling_in : Written → Spelling
spelling_in (Point front back power) = Decimal front.now back.now (exponent_in power)
spelling_in (Line above below) = Quotient above.now below.now

-- The parts of a number as it is written are digits.
abbrev pub IsOfDigits : Written → Type 0
IsOfDigits (Point front back power) = (all_digits front.now ≡ true)
    × ((all_digits back.now ≡ true) × (all_digits power.digits.now ≡ true))
IsOfDigits (Line above below) = (all_digits above.now ≡ true) × (all_digits below.now ≡ true)
