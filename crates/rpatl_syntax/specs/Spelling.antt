-- This module defines the one spelling of a formula.
use Rattle.std.specs.Prelude.{ℕ, ◌==◌, nat_lt, List, [], ◌∷◌, ◌++◌, Option, Some, None, if◌then◌else◌, codes, decimal}
use Rattle.fractions.specs.Fraction.{Fraction}
use Rattle.formula_reader.specs.declared.formula.Bound.{Bound}
use Rattle.formula_reader.specs.declared.formula.Bound.TheVariants.{AtLeast, Above, AtMost, Below, AskMax, AskMin}
use Rattle.formula_reader.specs.declared.formula.PathKind.{PathKind}
use Rattle.formula_reader.specs.declared.formula.PathKind.TheVariants.{Until, Within, Next, Always}
use Rattle.formula_reader.specs.Formula.{State, True, False, Label, Not, And, Or, Implies, Inner, Tree}

-- The outermost sign binds this tightly: `=>` least, then `|`, then `&`, then `!` and a formula without a sign.
abbrev pub strength_of : State → ℕ
strength_of True = 3
strength_of False = 3
strength_of (Label name) = 3
strength_of (Not x) = 3
strength_of (And x y) = 2
strength_of (Or x y) = 1
strength_of (Implies x y) = 0
strength_of (Inner team bound kind left right) = 3

-- A state formula in a place for formulas that bind at least this tightly is in brackets if it binds weaker.
abbrev pub in_place : ℕ → State → List ℕ → List ℕ
in_place least x spelling = if nat_lt (strength_of x) least then codes "(" ++ (spelling ++ codes ")") else spelling

-- These are names with a comma between each two.
abbrev pub names_spelling : List (List ℕ) → List ℕ
names_spelling [] = []
names_spelling (name ∷ []) = name
names_spelling (name ∷ other ∷ names) = name ++ (codes "," ++ names_spelling (other ∷ names))

-- These are the names of a coalition between `<<` and `>>`, with a blank behind them, or nothing if there is no
-- coalition.
abbrev pub coalition_spelling : Option (List (List ℕ)) → List ℕ
coalition_spelling None = []
coalition_spelling (Some names) = codes "<<" ++ (names_spelling names ++ codes ">> ")

-- This is the numerator and, unless the denominator is 1, a `/` and the denominator.
abbrev pub fraction_spelling : Fraction → List ℕ
fraction_spelling p = if p.den == 1 then decimal p.num else decimal p.num ++ (codes "/" ++ decimal p.den)

-- This is `P`, a sign of comparison and a threshold, or `Pmax=?` or `Pmin=?`.
abbrev pub bound_spelling : Bound → List ℕ
bound_spelling (AtLeast p) = codes "P>=" ++ fraction_spelling p
bound_spelling (Above p) = codes "P>" ++ fraction_spelling p
bound_spelling (AtMost p) = codes "P<=" ++ fraction_spelling p
bound_spelling (Below p) = codes "P<" ++ fraction_spelling p
bound_spelling AskMax = codes "Pmax=?"
bound_spelling AskMin = codes "Pmin=?"

-- This is `F` if the left side is `true`, and otherwise `x U`.
abbrev pub until_spelling : State → List ℕ → List ℕ
until_spelling True x = codes "F"
until_spelling left x = x ++ codes " U"

-- This comes before the right side, if x spells the left side: `F`, `x U`, `F<=k`, `x U<=k`, `X` or `G`.
abbrev pub kind_spelling : PathKind → State → List ℕ → List ℕ
kind_spelling Until left x = until_spelling left x
kind_spelling (Within k) left x = until_spelling left x ++ (codes "<=" ++ decimal k)
kind_spelling Next left x = codes "X"
kind_spelling Always left x = codes "G"

-- This is a coalition, a bound, and a path whose sides x and y spell.
abbrev pub spelling_with : Option (List (List ℕ)) → Bound → PathKind → State → List ℕ → List ℕ → List ℕ
spelling_with team bound kind left x y =
    coalition_spelling team ++ (bound_spelling bound ++ (codes " [ "
    ++ (kind_spelling kind left x ++ (codes " " ++ (y ++ codes " ]")))))

-- This is the spelling of a state formula with only the brackets that it needs: a right operand with the same sign is
-- in brackets, because operators group to the left.
abbrev pub state_spelling : State → List ℕ
state_spelling True = codes "true"
state_spelling False = codes "false"
state_spelling (Label name) = codes "\"" ++ (name ++ codes "\"")
state_spelling (Not x) = codes "!" ++ in_place 3 x (state_spelling x)
state_spelling (And x y) = in_place 2 x (state_spelling x) ++ (codes " & " ++ in_place 3 y (state_spelling y))
state_spelling (Or x y) = in_place 1 x (state_spelling x) ++ (codes " | " ++ in_place 2 y (state_spelling y))
state_spelling (Implies x y) = in_place 0 x (state_spelling x) ++ (codes " => " ++ in_place 1 y (state_spelling y))
state_spelling (Inner team bound kind left right) =
    spelling_with team bound kind left (state_spelling left) (state_spelling right)

-- This is the spelling of a formula.
abbrev pub spelling : Tree → List ℕ
spelling f = spelling_with f.coalition f.bound f.kind f.left (state_spelling f.left) (state_spelling f.right)
