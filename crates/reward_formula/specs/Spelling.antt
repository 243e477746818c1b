-- This module defines the one spelling of a formula of rewards.
use Rattle.std.specs.Prelude.{ℕ, List, [], ◌++◌, Option, Some, None, codes}
use Rattle.rpatl_syntax.specs.Spelling.{coalition_spelling, fraction_spelling, state_spelling, spelling}
use Rattle.reward_formula.specs.declared.formula.RewardBound.{RewardBound}
use Rattle.reward_formula.specs.declared.formula.RewardBound.TheVariants.{AtLeast, Above, AtMost, Below, AskMax, AskMin}
use Rattle.reward_formula.specs.Formula.{RewardTree, AnyTree, OfProbability, OfReward}

-- This is a name in quotes between `{` and `}`, or nothing if there is no name.
abbrev pub name_spelling : Option (List ℕ) → List ℕ
name_spelling None = []
name_spelling (Some name) = codes "{" ++ ((codes "\"" ++ (name ++ codes "\"")) ++ codes "}")

-- This comes behind `R` and the name: a sign of comparison and a threshold, or `max=?` or `min=?`.
abbrev pub asks_spelling : RewardBound → List ℕ
asks_spelling (AtLeast x) = codes ">=" ++ fraction_spelling x
asks_spelling (Above x) = codes ">" ++ fraction_spelling x
asks_spelling (AtMost x) = codes "<=" ++ fraction_spelling x
asks_spelling (Below x) = codes "<" ++ fraction_spelling x
asks_spelling AskMax = codes "max=?"
asks_spelling AskMin = codes "min=?"

-- This is `F` and a state formula between `[` and `]`, with a blank before it.
abbrev pub goal_spelling : List ℕ → List ℕ
goal_spelling state = codes " [ " ++ (codes "F " ++ (state ++ codes " ]"))

-- This is the spelling of a formula of rewards.
abbrev pub reward_spelling : RewardTree → List ℕ
reward_spelling f = coalition_spelling f.coalition
    ++ (codes "R" ++ (name_spelling f.name ++ (asks_spelling f.bound ++ goal_spelling (state_spelling f.goal))))

-- This is the spelling of a formula.
abbrev pub any_spelling : AnyTree → List ℕ
any_spelling (OfProbability f) = spelling f
any_spelling (OfReward f) = reward_spelling f
