-- The tokens of a printed formula of rewards are derived by the rules.
use Rattle.std.proofs.Common.{◌∙◌, ℕ, List, [], ◌∷◌, ◌++◌, Option, Some, None, refl, ap}
use Rattle.std.specs.Prelude.{codes}
use Rattle.fractions.specs.Fraction.{Fraction}
use Rattle.formula_tokens.specs.Reading.{is_number}
use Rattle.formula_reader.specs.Limits.{most_nested}
use Rattle.rewards_reader.specs.Amounts.{DenotesAmount}
use Rattle.rpatl_syntax.specs.Spelling.{fraction_spelling}
use Rattle.rpatl_syntax.proofs.Kept.{unquoted-quoted}
use Rattle.rpatl_syntax.proofs.Numerals.{HasFewDigits, fraction_text}
use Rattle.rpatl_syntax.proofs.PrintedParts.{team_derived}
use Rattle.rpatl_syntax.proofs.PrintedTokens.{team_tokens, state_tokens}
use Rattle.rpatl_syntax.proofs.Printing.{printed_state}
use Rattle.reward_formula.specs.declared.formula.RewardBound.{RewardBound}
use Rattle.reward_formula.specs.declared.formula.RewardBound.TheVariants.{AtLeast, Above, AtMost, Below, AskMax, AskMin}
use Rattle.reward_formula.specs.Formula.{RewardTree}
use Rattle.reward_formula.specs.Rules.{IsCompared, IsNamedBound, IsReward, IsRewardFormula}
use Rattle.reward_formula.specs.Spellable.{IsShortAmount, HasAmount, IsSpellableReward}

-- 1. The tokens.

abbrev pub quoted_token : List ℕ → List ℕ
quoted_token name = 34 ∷ (name ++ 34 ∷ [])

-- a bound behind a name
abbrev pub named_tokens : RewardBound → List (List ℕ)
named_tokens (AtLeast x) = codes ">=" ∷ fraction_spelling x ∷ []
named_tokens (Above x) = codes ">" ∷ fraction_spelling x ∷ []
named_tokens (AtMost x) = codes "<=" ∷ fraction_spelling x ∷ []
named_tokens (Below x) = codes "<" ∷ fraction_spelling x ∷ []
named_tokens AskMax = codes "max" ∷ codes "=?" ∷ []
named_tokens AskMin = codes "min" ∷ codes "=?" ∷ []

abbrev pub bare_tokens : RewardBound → List (List ℕ)
bare_tokens (AtLeast x) = codes "R" ∷ codes ">=" ∷ fraction_spelling x ∷ []
bare_tokens (Above x) = codes "R" ∷ codes ">" ∷ fraction_spelling x ∷ []
bare_tokens (AtMost x) = codes "R" ∷ codes "<=" ∷ fraction_spelling x ∷ []
bare_tokens (Below x) = codes "R" ∷ codes "<" ∷ fraction_spelling x ∷ []
bare_tokens AskMax = codes "Rmax" ∷ codes "=?" ∷ []
bare_tokens AskMin = codes "Rmin" ∷ codes "=?" ∷ []

abbrev pub reward_tokens : Option (List ℕ) → RewardBound → List (List ℕ)
reward_tokens None b = bare_tokens b
reward_tokens (Some name) b = codes "R" ∷ codes "{" ∷ quoted_token name ∷ codes "}" ∷ named_tokens b

abbrev pub goal_tokens : List (List ℕ) → List (List ℕ)
goal_tokens us = codes "[" ∷ codes "F" ∷ (us ++ codes "]" ∷ [])

abbrev pub formula_tokens : RewardTree → List (List ℕ)
formula_tokens f = team_tokens f.coalition ++ (reward_tokens f.name f.bound ++ goal_tokens (state_tokens f.goal))

-- 2. What they are.

pub short_digits : (x : Fraction) → IsShortAmount x → HasFewDigits x
short_digits x is = record { few = is.few; positive = is.amount.positive; fine = is.amount.fine }

short_denotes : (x : Fraction) → IsShortAmount x → DenotesAmount (fraction_spelling x) x
short_denotes x is =
    let t = fraction_text x (short_digits x is) in
    record {
      spelling = t.spelling;
      spelled = t.spelled;
      short = t.short;
      divided = t.divided;
      value = t.value;
      amount = is.amount;
    }

compared_derived : (sign : List ℕ) (x : Fraction) → IsShortAmount x
    → IsCompared sign (sign ∷ fraction_spelling x ∷ []) x
compared_derived sign x is =
    let t = fraction_text x (short_digits x is) in
    (fraction_spelling x, refl, record { number = ap is_number t.whole ∙ t.digit; value = short_denotes x is })

named_derived : (b : RewardBound) → HasAmount b → IsNamedBound (named_tokens b) b
named_derived (AtLeast x) is = compared_derived (codes ">=") x is
named_derived (Above x) is = compared_derived (codes ">") x is
named_derived (AtMost x) is = compared_derived (codes "<=") x is
named_derived (Below x) is = compared_derived (codes "<") x is
named_derived AskMax is = refl
named_derived AskMin is = refl

reward_derived : (name : Option (List ℕ)) (b : RewardBound) → HasAmount b → IsReward (reward_tokens name b) name b
reward_derived (Some name) b is = record {
  token = quoted_token name;
  asks = named_tokens b;
  whole = refl;
  quoted = refl;
  is_name = unquoted-quoted name;
  bound_is = named_derived b is;
}
reward_derived None (AtLeast x) is = (named_tokens (AtLeast x), refl, compared_derived (codes ">=") x is)
reward_derived None (Above x) is = (named_tokens (Above x), refl, compared_derived (codes ">") x is)
reward_derived None (AtMost x) is = (named_tokens (AtMost x), refl, compared_derived (codes "<=") x is)
reward_derived None (Below x) is = (named_tokens (Below x), refl, compared_derived (codes "<") x is)
reward_derived None AskMax is = refl
reward_derived None AskMin is = refl

pub formula_derived : (f : RewardTree) → IsSpellableReward f → IsRewardFormula (formula_tokens f) f
formula_derived f is = record {
  team = team_tokens f.coalition;
  asks = reward_tokens f.name f.bound;
  goal = state_tokens f.goal;
  whole = refl;
  coalition = team_derived f.coalition is.words;
  reward = reward_derived f.name f.bound is.amount;
  state = printed_state most_nested f.goal is.goal.parts is.goal.nests;
  flat = is.flat;
}
