-- These definitions give the rewards that texts spell. A reward is spelled as a probability is, but it may be greater.
use Rattle.std.specs.Prelude.{◌≡◌, ℕ, false, ◌*◌, ◌==◌, ◌≤◌, nat_lt, List, Option, Some, None, Result, Ok, Err}
use Rattle.std.specs.Prelude.{if◌then◌else◌, All, unwrap_or}
use Rattle.std.specs.Int.{IsGcd}
use Rattle.fractions.specs.declared.number.NumberFault.TheVariants.{NotANumber, TooManyDigits, ZeroDenominator, TooFine}
use Rattle.fractions.specs.Fraction.{Fraction, SameValue, lowest}
use Rattle.fractions.specs.Limits.{finest}
use Rattle.numerals.specs.Spelling.{Spelling, Spells, spelling_of, is_long}
use Rattle.fractions.specs.Number.{value_of}
use Rattle.rewards_reader.specs.declared.fault.RewardsCause.{RewardsCause}
use Rattle.rewards_reader.specs.declared.fault.RewardsCause.TheVariants.{Number, TooLarge}
use Rattle.rewards_reader.specs.Limits.{most_reward}

-- These facts hold for every reward of the program.
pub record IsAmount (f : Fraction) : Type 0 where
  pub lowest : IsGcd f.num f.den 1
  pub positive : 1 ≤ f.den
  pub fine : f.den ≤ finest
  pub small : f.num ≤ most_reward * f.den

-- The text spells this reward: it is of the value that the text spells, in lowest terms.
pub record DenotesAmount (text : List ℕ) (f : Fraction) : Type 0 where
  pub spelling : Spelling
  pub spelled : Spells text spelling
  pub short : is_long spelling ≡ false
  pub divided : 1 ≤ (value_of spelling).den
  pub value : SameValue f (value_of spelling)
  pub amount : IsAmount f

-- This is the reward 0.
abbrev pub no_reward : Fraction
no_reward = record { num = 0; den = 1 }

-- Each entry of a table is an amount. An entry that has none counts as the reward 0.
pub record AreAmounts (table : List (Option Fraction)) : Type 0 where
  pub each : All (λ entry. IsAmount (unwrap_or entry no_reward)) table

-- This is a fraction in lowest terms if it may be a reward, or its first fault.
abbrev pub amount_within : Fraction → Result Fraction RewardsCause
amount_within f = if nat_lt finest f.den then Err (Number TooFine) else
    (if nat_lt (most_reward * f.den) f.num then Err TooLarge else Ok f)

-- This is the fraction of the same value in lowest terms, or its first fault: its denominator is 0, or it may be no
-- reward.
abbrev pub amount_of : Fraction → Result Fraction RewardsCause
amount_of f = if f.den == 0 then Err (Number ZeroDenominator) else amount_within (lowest f)

-- This is the reward that a spelling gives, or its first fault. Without a spelling the text is no number.
abbrev pub spelled_amount : Option Spelling → Result Fraction RewardsCause
spelled_amount None = Err (Number NotANumber)
spelled_amount (Some spelling) = if is_long spelling then Err (Number TooManyDigits) else amount_of (value_of spelling)

-- This is the reward that a text spells, or its first fault.
abbrev pub amount_said : List ℕ → Result Fraction RewardsCause
amount_said text = spelled_amount (spelling_of text)
