-- The grammar of formulas is given by rules, which say which lists of tokens spell which tree.
use Rattle.std.specs.Prelude.{◌≡◌, ◌≤◌, ℕ, suc, true, List, [], ◌∷◌, ◌++◌, length, Option, Some, None, codes}
use Rattle.std.specs.List.{All}
use Rattle.fractions.specs.Fraction.{Fraction}
use Rattle.fractions.specs.Number.{DenotesNumber}
use Rattle.formula_reader.specs.declared.formula.Bound.{Bound}
use Rattle.formula_reader.specs.declared.formula.Bound.TheVariants.{AtLeast, Above, AtMost, Below, AskMax, AskMin}
use Rattle.formula_reader.specs.declared.formula.PathKind.{PathKind}
use Rattle.formula_reader.specs.declared.formula.PathKind.TheVariants.{Until, Within, Next, Always}
use Rattle.formula_reader.specs.Formula.{State, True, False, Label, Not, And, Or, Implies, Tree, inner_of}
use Rattle.formula_reader.specs.Limits.{most_nested, most_steps}
use Rattle.formula_tokens.specs.Limits.{longest}
use Rattle.formula_tokens.specs.TokenRules.{AreCut}
use Rattle.text_lines.specs.Text.{number_of}
use Rattle.formula_tokens.specs.Reading.{is_word, is_number, is_quoted, unquoted}

-- This is a token between two lists of tokens.
abbrev pub between : List (List ℕ) → List ℕ → List (List ℕ) → List (List ℕ)
between ts token us = ts ++ token ∷ us

-- These are names with a comma between each two.
abbrev pub with_commas : List (List ℕ) → List (List ℕ)
with_commas [] = []
with_commas (name ∷ []) = name ∷ []
with_commas (name ∷ other ∷ names) = name ∷ codes "," ∷ with_commas (other ∷ names)

-- The token is a word, as the name of a player is.
abbrev pub IsWord : List ℕ → Type 0
IsWord token = is_word token ≡ true

-- coalition = "<<" [ word { "," word } ] ">>", or none
abbrev pub IsCoalition : List (List ℕ) → Option (List (List ℕ)) → Type 0
IsCoalition ts None = ts ≡ []
IsCoalition ts (Some names) = (ts ≡ codes "<<" ∷ (with_commas names ++ codes ">>" ∷ [])) × All IsWord names

-- The token is a number of this value, which is at most 1.
pub record IsThreshold (token : List ℕ) (p : Fraction) : Type 0 where
  pub number : is_number token ≡ true
  pub value : DenotesNumber token p
  pub small : p.num ≤ p.den

-- The tokens are "P", a sign and a number.
abbrev pub IsComparison : List ℕ → List (List ℕ) → Fraction → Type 0
IsComparison sign ts p = (token : List ℕ) × (ts ≡ codes "P" ∷ sign ∷ token ∷ []) × IsThreshold token p

-- bound = "P" ( ">=" | ">" | "<=" | "<" ) number | "Pmax" "=?" | "Pmin" "=?"
abbrev pub IsBound : List (List ℕ) → Bound → Type 0
IsBound ts (AtLeast p) = IsComparison (codes ">=") ts p
IsBound ts (Above p) = IsComparison (codes ">") ts p
IsBound ts (AtMost p) = IsComparison (codes "<=") ts p
IsBound ts (Below p) = IsComparison (codes "<") ts p
IsBound ts AskMax = ts ≡ codes "Pmax" ∷ codes "=?" ∷ []
IsBound ts AskMin = ts ≡ codes "Pmin" ∷ codes "=?" ∷ []

-- The bound compares with a threshold.
abbrev pub Compares : Bound → Type 0
Compares (AtLeast p) = Unit {0}
Compares (Above p) = Unit {0}
Compares (AtMost p) = Unit {0}
Compares (Below p) = Unit {0}
Compares AskMax = ⊥
Compares AskMin = ⊥

-- The token is a whole number of this value, which is not too great.
pub record IsSteps (token : List ℕ) (k : ℕ) : Type 0 where
  pub value : number_of token ≡ Some k
  pub small : k ≤ most_steps

-- These are the tokens [ coalition ] bound "[" path "]" of a formula with these three parts.
abbrev pub formula_of : List (List ℕ) → List (List ℕ) → List (List ℕ) → List (List ℕ)
formula_of team asks sides = team ++ (asks ++ codes "[" ∷ (sides ++ codes "]" ∷ []))

-- Tokens spell these state formulas and paths. At most `room` signs `(`, `!` and `[` are open at once in them.
mutual
  -- state = either | state "=>" either
  pub data IsState : ℕ → List (List ℕ) → State → Type 0 where
    plain_state : (room : ℕ) (ts : List (List ℕ)) (x : State) → IsEither room ts x → IsState room ts x
    implies : (room : ℕ) (ts us : List (List ℕ)) (x y : State) → IsState room ts x → IsEither room us y
        → IsState room (between ts (codes "=>") us) (Implies x y)

  -- either = both | either "|" both
  pub data IsEither : ℕ → List (List ℕ) → State → Type 0 where
    plain_either : (room : ℕ) (ts : List (List ℕ)) (x : State) → IsBoth room ts x → IsEither room ts x
    or : (room : ℕ) (ts us : List (List ℕ)) (x y : State) → IsEither room ts x → IsBoth room us y
        → IsEither room (between ts (codes "|") us) (Or x y)

  -- both = unary | both "&" unary
  pub data IsBoth : ℕ → List (List ℕ) → State → Type 0 where
    plain_both : (room : ℕ) (ts : List (List ℕ)) (x : State) → IsUnary room ts x → IsBoth room ts x
    and : (room : ℕ) (ts us : List (List ℕ)) (x y : State) → IsBoth room ts x → IsUnary room us y
        → IsBoth room (between ts (codes "&") us) (And x y)

  -- unary = "!" unary | "(" state ")" | "true" | "false" | quoted name | formula, whose bound compares
  pub data IsUnary : ℕ → List (List ℕ) → State → Type 0 where
    negation : (room : ℕ) (ts : List (List ℕ)) (x : State) → IsUnary room ts x
        → IsUnary (suc room) (codes "!" ∷ ts) (Not x)
    brackets : (room : ℕ) (ts : List (List ℕ)) (x : State) → IsState room ts x
        → IsUnary (suc room) (codes "(" ∷ (ts ++ codes ")" ∷ [])) x
    everywhere : (room : ℕ) → IsUnary room (codes "true" ∷ []) True
    nowhere : (room : ℕ) → IsUnary room (codes "false" ∷ []) False
    label : (room : ℕ) (token : List ℕ) → is_quoted token ≡ true → IsUnary room (token ∷ []) (Label (unquoted token))
    inside : (room : ℕ) (team asks sides : List (List ℕ)) (f : Tree) → IsCoalition team f.coalition
        → IsBound asks f.bound → Compares f.bound → IsPath room sides f.kind f.left f.right
        → IsUnary (suc room) (formula_of team asks sides) (inner_of f)

  -- path = "F" [ "<=" number ] state | state "U" [ "<=" number ] state | "X" state | "G" state
  pub data IsPath : ℕ → List (List ℕ) → PathKind → State → State → Type 0 where
    reach : (room : ℕ) (ts : List (List ℕ)) (y : State) → IsState room ts y → IsPath room (codes "F" ∷ ts) Until True y
    reach_within : (room : ℕ) (token : List ℕ) (ts : List (List ℕ)) (k : ℕ) (y : State) → IsSteps token k
        → IsState room ts y → IsPath room (codes "F" ∷ codes "<=" ∷ token ∷ ts) (Within k) True y
    until : (room : ℕ) (ts us : List (List ℕ)) (x y : State) → IsState room ts x → IsState room us y
        → IsPath room (between ts (codes "U") us) Until x y
    until_within : (room : ℕ) (ts : List (List ℕ)) (token : List ℕ) (us : List (List ℕ)) (k : ℕ) (x y : State)
        → IsState room ts x → IsSteps token k → IsState room us y
        → IsPath room (between ts (codes "U") (codes "<=" ∷ token ∷ us)) (Within k) x y
    next : (room : ℕ) (ts : List (List ℕ)) (y : State) → IsState room ts y → IsPath room (codes "X" ∷ ts) Next True y
    always : (room : ℕ) (ts : List (List ℕ)) (y : State) → IsState room ts y
        → IsPath room (codes "G" ∷ ts) Always True y

-- formula = [ coalition ] bound "[" path "]"
pub record IsFormula (ts : List (List ℕ)) (f : Tree) : Type 0 where
  pub team : List (List ℕ)
  pub asks : List (List ℕ)
  pub sides : List (List ℕ)
  pub whole : ts ≡ formula_of team asks sides
  pub coalition : IsCoalition team f.coalition
  pub bound : IsBound asks f.bound
  pub path : IsPath most_nested sides f.kind f.left f.right

-- The text spells this formula.
pub record DenotesFormula (text : List ℕ) (f : Tree) : Type 0 where
  pub short : length text ≤ longest
  pub tokens : List (List ℕ)
  pub cut : AreCut text tokens
  pub formula : IsFormula tokens f
