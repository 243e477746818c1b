-- The grammar can spell these formulas. A formula that a text denotes is one of them, and each of them is read again
-- from its spelling, unless that is too long.
use Rattle.std.specs.Prelude.{◌≡◌, ◌<◌, ◌^◌, ℕ, true, List, Option, Some, None}
use Rattle.numerals.specs.Limits.{most_digits}
use Rattle.fractions.specs.Fraction.{Fraction}
use Rattle.rewards_reader.specs.Amounts.{IsAmount}
use Rattle.formula_tokens.specs.TokenRules.{IsName}
use Rattle.formula_reader.specs.Formula.{is_flat}
use Rattle.rpatl_syntax.specs.Spellable.{HasWords, IsSide, IsSpellable}
use Rattle.reward_formula.specs.declared.formula.RewardBound.{RewardBound}
use Rattle.reward_formula.specs.declared.formula.RewardBound.TheVariants.{AtLeast, Above, AtMost, Below, AskMax, AskMin}
use Rattle.reward_formula.specs.Formula.{RewardTree, AnyTree, OfProbability, OfReward}

-- The name, if there is one, can be quoted.
abbrev pub HasName : Option (List ℕ) → Type 0
HasName None = Unit {0}
HasName (Some name) = IsName name

-- A threshold may be a reward, and its numerator has no more digits than may be read.
pub record IsShortAmount (x : Fraction) : Type 0 where
  pub amount : IsAmount x
  pub few : x.num < 10 ^ most_digits

-- The bound compares with such a threshold, or it asks for a value.
abbrev pub HasAmount : RewardBound → Type 0
HasAmount (AtLeast x) = IsShortAmount x
HasAmount (Above x) = IsShortAmount x
HasAmount (AtMost x) = IsShortAmount x
HasAmount (Below x) = IsShortAmount x
HasAmount AskMax = Unit {0}
HasAmount AskMin = Unit {0}

-- The grammar can spell each part of the formula of rewards.
pub record IsSpellableReward (f : RewardTree) : Type 0 where
  pub words : HasWords f.coalition
  pub name : HasName f.name
  pub amount : HasAmount f.bound
  pub goal : IsSide f.goal
  pub flat : is_flat f.goal ≡ true

-- The grammar can spell the formula.
abbrev pub IsAnySpellable : AnyTree → Type 0
IsAnySpellable (OfProbability f) = IsSpellable f
IsAnySpellable (OfReward f) = IsSpellableReward f
