-- The tokens of the spelling of a formula.
use Rattle.std.proofs.Common.{ℕ, List, [], ◌∷◌, ◌++◌, Option, Some, None, nat_lt}
use Rattle.std.specs.Prelude.{codes, decimal, if◌then◌else◌}
use Rattle.formula_reader.specs.declared.formula.Bound.{Bound}
use Rattle.formula_reader.specs.declared.formula.Bound.TheVariants.{AtLeast, Above, AtMost, Below, AskMax, AskMin}
use Rattle.formula_reader.specs.declared.formula.PathKind.{PathKind}
use Rattle.formula_reader.specs.declared.formula.PathKind.TheVariants.{Until, Within, Next, Always}
use Rattle.formula_reader.specs.Formula.{State, True, False, Label, Not, And, Or, Implies, Inner, Tree}
use Rattle.rpatl_syntax.specs.Spelling.{strength_of, fraction_spelling}
use Rattle.formula_reader.specs.Rules.{between, with_commas, formula_of}

abbrev pub team_tokens : Option (List (List ℕ)) → List (List ℕ)
team_tokens None = []
team_tokens (Some names) = codes "<<" ∷ (with_commas names ++ codes ">>" ∷ [])

abbrev pub bound_tokens : Bound → List (List ℕ)
bound_tokens (AtLeast p) = codes "P" ∷ codes ">=" ∷ fraction_spelling p ∷ []
bound_tokens (Above p) = codes "P" ∷ codes ">" ∷ fraction_spelling p ∷ []
bound_tokens (AtMost p) = codes "P" ∷ codes "<=" ∷ fraction_spelling p ∷ []
bound_tokens (Below p) = codes "P" ∷ codes "<" ∷ fraction_spelling p ∷ []
bound_tokens AskMax = codes "Pmax" ∷ codes "=?" ∷ []
bound_tokens AskMin = codes "Pmin" ∷ codes "=?" ∷ []

-- where these are the tokens of the left side
abbrev pub until_tokens : State → List (List ℕ) → List (List ℕ)
until_tokens True us = codes "F" ∷ []
until_tokens left us = us ++ codes "U" ∷ []

abbrev pub kind_tokens : PathKind → State → List (List ℕ) → List (List ℕ)
kind_tokens Until left us = until_tokens left us
kind_tokens (Within k) left us = until_tokens left us ++ codes "<=" ∷ decimal k ∷ []
kind_tokens Next left us = codes "X" ∷ []
kind_tokens Always left us = codes "G" ∷ []

-- a formula, where these are the tokens of its sides
abbrev pub tokens_with : Option (List (List ℕ)) → Bound → PathKind → State → List (List ℕ)
    → List (List ℕ) → List (List ℕ)
tokens_with team bound kind left us vs =
    formula_of (team_tokens team) (bound_tokens bound) (kind_tokens kind left us ++ vs)

abbrev pub tokens_in : ℕ → State → List (List ℕ) → List (List ℕ)
tokens_in least x tokens = if nat_lt (strength_of x) least then codes "(" ∷ (tokens ++ codes ")" ∷ []) else tokens

-- the tokens of the spelling
abbrev pub state_tokens : State → List (List ℕ)
state_tokens True = codes "true" ∷ []
state_tokens False = codes "false" ∷ []
state_tokens (Label name) = (34 ∷ (name ++ 34 ∷ [])) ∷ []
state_tokens (Not x) = codes "!" ∷ tokens_in 3 x (state_tokens x)
state_tokens (And x y) = between (tokens_in 2 x (state_tokens x)) (codes "&") (tokens_in 3 y (state_tokens y))
state_tokens (Or x y) = between (tokens_in 1 x (state_tokens x)) (codes "|") (tokens_in 2 y (state_tokens y))
state_tokens (Implies x y) = between (tokens_in 0 x (state_tokens x)) (codes "=>") (tokens_in 1 y (state_tokens y))
state_tokens (Inner team bound kind left right) =
    tokens_with team bound kind left (state_tokens left) (state_tokens right)

abbrev pub formula_tokens : Tree → List (List ℕ)
formula_tokens f = tokens_with f.coalition f.bound f.kind f.left (state_tokens f.left) (state_tokens f.right)
