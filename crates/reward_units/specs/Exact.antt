-- This module defines exact rewards, the tables that they are rounded to, and the certificate over exact rewards.
use Rattle.std.specs.Prelude.{◌≡◌, ℕ, ◌+◌, ◌*◌, ◌^◌, ◌<◌, ◌≤◌, length}
use Rattle.game_model.specs.Game.{choices_of}
use Rattle.game_model.specs.Limits.{unit}
use Rattle.game_model.specs.Query.{Query, states}
use Rattle.fractions.specs.Fraction.{Fraction, SameValue}
use Rattle.expected_rewards.specs.Rewards.{Rewards}
use Rattle.reward_check.specs.Certificates.{Certificate}
use Rattle.reward_units.specs.Units.{all_below, all_above, units_below, units_above}

-- Each state has an exact reward, and so has each of its choices.
pub record ExactRewards : Type 0 where
  pub of_state : ℕ → Fraction
  pub of_choice : ℕ → ℕ → Fraction

-- A turn is paid the units of the state and those of the choice, each rounded down by itself.
abbrev pub paid_below : ExactRewards → ℕ → Rewards
paid_below exact places s c = units_below (exact.of_state s) places + units_below (exact.of_choice s c) places

-- A turn is paid the units of the state and those of the choice, each rounded up by itself.
abbrev pub paid_above : ExactRewards → ℕ → Rewards
paid_above exact places s c = units_above (exact.of_state s) places + units_above (exact.of_choice s c) places

-- This is the sum of two fractions.
abbrev pub sum_of : Fraction → Fraction → Fraction
sum_of f g = record { num = f.num * g.den + g.num * f.den; den = f.den * g.den }

-- No denominator is 0.
pub record HaveDenominators (q : Query) (exact : ExactRewards) : Type 0 where
  pub of_state : (s : ℕ) → s < states q → 1 ≤ (exact.of_state s).den
  pub of_choice : (s c : ℕ) → s < states q → c < length (choices_of q.game s) → 1 ≤ (exact.of_choice s c).den

-- What a turn is paid exactly, by the state and by the choice together, is `whole` over a common denominator.
pub record ArePaid (q : Query) (exact : ExactRewards) (den : ℕ) (whole : Rewards) : Type 0 where
  pub denominators : HaveDenominators q exact
  pub positive : 1 ≤ den
  pub total : (s c : ℕ) → s < states q → c < length (choices_of q.game s)
      → SameValue (record { num = whole s c; den = den }) (sum_of (exact.of_state s) (exact.of_choice s c))

-- The rewards of a certificate are exact ones in units of so many places, rounded down and rounded up.
pub record AreRounded (c : Certificate) (exact : ExactRewards) (places : ℕ) : Type 0 where
  pub low : (s k : ℕ) → s < states c.question → k < length (choices_of c.question.game s)
      → c.low s k ≡ paid_below exact places s k
  pub high : (s k : ℕ) → s < states c.question → k < length (choices_of c.question.game s)
      → c.high s k ≡ paid_above exact places s k

-- No value is above 10^15 units.
pub record HaveValues (c : Certificate) : Type 0 where
  pub lower : (s : ℕ) → s < states c.question → c.lower s ≤ unit
  pub upper : (s : ℕ) → s < states c.question → c.upper s ≤ unit

-- This is the certificate over rewards that are rounded to units, however many they are.
abbrev pub uncapped : Certificate → ExactRewards → ℕ → Certificate
uncapped c exact places = record c {
  low = λ s k. all_below (exact.of_state s) places + all_below (exact.of_choice s k) places;
  high = λ s k. all_above (exact.of_state s) places + all_above (exact.of_choice s k) places;
}

-- This is the certificate over the exact rewards, which are `whole` over `den`. It is in finer units, of which `den`
-- make one unit of so many places, so that nothing is rounded any more.
abbrev pub exact_of : Certificate → ℕ → ℕ → Rewards → Certificate
exact_of c places den whole = record c {
  low = λ s k. 10 ^ places * whole s k;
  high = λ s k. 10 ^ places * whole s k;
  lower = λ s. den * c.lower s;
  upper = λ s. den * c.upper s;
}
