-- The grammar of formulas of rewards is given by rules, which say which lists of tokens spell which tree.
use Rattle.std.specs.Prelude.{◌≡◌, ◌≤◌, ℕ, true, List, [], ◌∷◌, length, Option, Some, None, codes}
use Rattle.fractions.specs.Fraction.{Fraction}
use Rattle.rewards_reader.specs.Amounts.{DenotesAmount}
use Rattle.formula_tokens.specs.Limits.{longest}
use Rattle.formula_tokens.specs.Reading.{is_number, is_quoted, unquoted}
use Rattle.formula_tokens.specs.TokenRules.{AreCut}
use Rattle.formula_reader.specs.Formula.{is_flat}
use Rattle.formula_reader.specs.Limits.{most_nested}
use Rattle.formula_reader.specs.Rules.{IsCoalition, IsState, DenotesFormula, formula_of}
use Rattle.reward_formula.specs.declared.formula.RewardBound.{RewardBound}
use Rattle.reward_formula.specs.declared.formula.RewardBound.TheVariants.{AtLeast, Above, AtMost, Below, AskMax, AskMin}
use Rattle.reward_formula.specs.Formula.{RewardTree, AnyTree, OfProbability, OfReward}

-- The token is a number of this value, which may be a reward.
pub record IsThreshold (token : List ℕ) (x : Fraction) : Type 0 where
  pub number : is_number token ≡ true
  pub value : DenotesAmount token x

-- The tokens are this sign and a number.
abbrev pub IsCompared : List ℕ → List (List ℕ) → Fraction → Type 0
IsCompared sign ts x = (token : List ℕ) × (ts ≡ sign ∷ token ∷ []) × IsThreshold token x

-- named bound = ( ">=" | ">" | "<=" | "<" ) number | "max" "=?" | "min" "=?"
abbrev pub IsNamedBound : List (List ℕ) → RewardBound → Type 0
IsNamedBound ts (AtLeast x) = IsCompared (codes ">=") ts x
IsNamedBound ts (Above x) = IsCompared (codes ">") ts x
IsNamedBound ts (AtMost x) = IsCompared (codes "<=") ts x
IsNamedBound ts (Below x) = IsCompared (codes "<") ts x
IsNamedBound ts AskMax = ts ≡ codes "max" ∷ codes "=?" ∷ []
IsNamedBound ts AskMin = ts ≡ codes "min" ∷ codes "=?" ∷ []

-- The tokens are "R", this sign and a number.
abbrev pub IsBareComparison : List ℕ → List (List ℕ) → Fraction → Type 0
IsBareComparison sign ts x = (us : List (List ℕ)) × (ts ≡ codes "R" ∷ us) × IsCompared sign us x

-- bare bound = "R" ( ">=" | ">" | "<=" | "<" ) number | "Rmax" "=?" | "Rmin" "=?"
abbrev pub IsBareBound : List (List ℕ) → RewardBound → Type 0
IsBareBound ts (AtLeast x) = IsBareComparison (codes ">=") ts x
IsBareBound ts (Above x) = IsBareComparison (codes ">") ts x
IsBareBound ts (AtMost x) = IsBareComparison (codes "<=") ts x
IsBareBound ts (Below x) = IsBareComparison (codes "<") ts x
IsBareBound ts AskMax = ts ≡ codes "Rmax" ∷ codes "=?" ∷ []
IsBareBound ts AskMin = ts ≡ codes "Rmin" ∷ codes "=?" ∷ []

-- named reward = "R" "{" quoted name "}" named bound
pub record IsNamedReward (ts : List (List ℕ)) (name : List ℕ) (bound : RewardBound) : Type 0 where
  pub token : List ℕ
  pub asks : List (List ℕ)
  pub whole : ts ≡ codes "R" ∷ codes "{" ∷ token ∷ codes "}" ∷ asks
  pub quoted : is_quoted token ≡ true
  pub is_name : unquoted token ≡ name
  pub bound_is : IsNamedBound asks bound

-- reward = bare bound | named reward
abbrev pub IsReward : List (List ℕ) → Option (List ℕ) → RewardBound → Type 0
IsReward ts None bound = IsBareBound ts bound
IsReward ts (Some name) bound = IsNamedReward ts name bound

-- formula = [ coalition ] reward "[" "F" state "]", and no formula is inside the state formula
pub record IsRewardFormula (ts : List (List ℕ)) (f : RewardTree) : Type 0 where
  pub team : List (List ℕ)
  pub asks : List (List ℕ)
  pub goal : List (List ℕ)
  pub whole : ts ≡ formula_of team asks (codes "F" ∷ goal)
  pub coalition : IsCoalition team f.coalition
  pub reward : IsReward asks f.name f.bound
  pub state : IsState most_nested goal f.goal
  pub flat : is_flat f.goal ≡ true

-- The text spells this formula of rewards.
pub record DenotesReward (text : List ℕ) (f : RewardTree) : Type 0 where
  pub short : length text ≤ longest
  pub tokens : List (List ℕ)
  pub cut : AreCut text tokens
  pub formula : IsRewardFormula tokens f

-- The text spells this formula.
abbrev pub Denotes : List ℕ → AnyTree → Type 0
Denotes text (OfProbability f) = DenotesFormula text f
Denotes text (OfReward f) = DenotesReward text f
