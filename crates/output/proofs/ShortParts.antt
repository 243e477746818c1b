-- How long the parts of a spelled formula are at most, in the bytes of the tokens that denote them.
use Rattle.std.proofs.Common.{◌≡◌, ◌<◌, ◌≤◌, ◌+◌, ◌^◌, ℕ, Bool, true, false, List, [], ◌∷◌, ◌++◌, length, Option, Some}
use Rattle.std.proofs.Common.{None, ap, arith}
use Rattle.std.specs.Prelude.{◌==◌, codes, decimal, if◌then◌else◌}
use Rattle.std.proofs.lemmas.List.{length-append}
use Rattle.std.proofs.lemmas.Fmt.{length-decimal-le_wide}
use Rattle.fractions.specs.Fraction.{Fraction}
use Rattle.formula_reader.specs.declared.formula.Bound.{Bound}
use Rattle.formula_reader.specs.declared.formula.Bound.TheVariants.{AtLeast, Above, AtMost, Below, AskMax, AskMin}
use Rattle.formula_reader.specs.Formula.{State, True}
use Rattle.formula_tokens.specs.Reading.{is_number}
use Rattle.formula_reader.specs.declared.formula.PathKind.{PathKind}
use Rattle.formula_reader.specs.declared.formula.PathKind.TheVariants.{Within}
use Rattle.formula_reader.specs.Rules.{formula_of, with_commas, IsCoalition, IsComparison, IsBound, Compares}
use Rattle.rpatl_syntax.specs.Spelling.{until_spelling, kind_spelling, spelling_with, names_spelling}
use Rattle.rpatl_syntax.specs.Spelling.{coalition_spelling, fraction_spelling, bound_spelling, spelling}
use Rattle.formula_tokens.specs.TokenRules.{AreCut, nothing, blank, token}
use Rattle.output.proofs.PlainParts.{IsFine, HasFine}
use Rattle.output.proofs.ShortLines.{joined-short}

-- 1. Tokens are together no longer than the text that is cut into them.

abbrev pub bytes_in : List (List ℕ) → ℕ
bytes_in [] = 0
bytes_in (t ∷ ts) = length t + bytes_in ts

pub bytes_in-append : (ts us : List (List ℕ)) → bytes_in (ts ++ us) ≡ bytes_in ts + bytes_in us
bytes_in-append [] us = omega arith
bytes_in-append (t ∷ ts) us = omega (arith, bytes_in-append ts us)

pub cut-short : (text : List ℕ) (tokens : List (List ℕ)) → AreCut text tokens → bytes_in tokens ≤ length text
cut-short _ _ nothing = omega arith
cut-short _ _ (blank b rest tokens is cut) = omega (arith, cut-short rest tokens cut)
cut-short _ _ (token spelling rest tokens is cut) =
    omega (arith, cut-short rest tokens cut, length-append spelling rest)

-- 2. The parts of a formula.

pub until-short : (left : State) (x : List ℕ) → length (until_spelling left x) ≤ length x + 2
until-short True x = omega arith
until-short left x = omega (arith, length-append x (codes " U"))

-- a number of steps
steps-short : (k : ℕ) → k ≤ 1000000 → length (decimal k) ≤ 7
steps-short k few = length-decimal-le_wide 7 k (omega arith) (omega (arith, few)) (omega (arith, few))

pub within-short : (left : State) (x : List ℕ) (k : ℕ) → k ≤ 1000000
    → length (kind_spelling (Within k) left x) ≤ length (until_spelling left x) + 9
within-short left x k few =
    omega (arith, length-append (until_spelling left x) (codes "<=" ++ decimal k), steps-short k few)

names-short : (names : List (List ℕ)) → length (names_spelling names) ≤ bytes_in (with_commas names)
names-short [] = omega arith
names-short (name ∷ []) = omega arith
names-short (name ∷ other ∷ names) =
    omega (arith, names-short (other ∷ names), length-append name (codes "," ++ names_spelling (other ∷ names)))

-- a blank stands behind the coalition
pub coalition-short : (ts : List (List ℕ)) (coalition : Option (List (List ℕ))) → IsCoalition ts coalition
    → length (coalition_spelling coalition) ≤ bytes_in ts + 1
coalition-short ts None is = omega arith
coalition-short ts (Some names) is =
    omega (
      arith,
      ap bytes_in is.0,
      names-short names,
      bytes_in-append (with_commas names) (codes ">>" ∷ []),
      length-append (names_spelling names) (codes ">> "),
    )

decimal-short : (n : ℕ) → n < 10 ^ 64 → length (decimal n) ≤ 64
decimal-short n small = length-decimal-le_wide 64 n (omega arith) small small

fraction-short : (p : Fraction) → IsFine p → length (fraction_spelling p) ≤ 129
fraction-short p fine = by (p.den == 1)
  where
    of_num : length (decimal p.num) ≤ 64
    of_num = decimal-short p.num (omega (arith, fine.0, fine.1))

    of_den : length (decimal p.den) ≤ 64
    of_den = decimal-short p.den (omega (arith, fine.1))

    by : (b : Bool) → length (if b then decimal p.num else decimal p.num ++ (codes "/" ++ decimal p.den)) ≤ 129
    by true = omega (arith, of_num)
    by false = joined-short 64 65 (decimal p.num) (codes "/" ++ decimal p.den) of_num
        (joined-short 1 64 (codes "/") (decimal p.den) (omega arith) of_den)

compared-short : (word : List ℕ) (p : Fraction) → length word ≤ 3 → IsFine p
    → length (word ++ fraction_spelling p) ≤ 132
compared-short word p small fine = joined-short 3 129 word (fraction_spelling p) small (fraction-short p fine)

bound-short : (bound : Bound) → HasFine bound → length (bound_spelling bound) ≤ 132
bound-short (AtLeast p) fine = compared-short (codes "P>=") p (omega arith) fine
bound-short (Above p) fine = compared-short (codes "P>") p (omega arith) fine
bound-short (AtMost p) fine = compared-short (codes "P<=") p (omega arith) fine
bound-short (Below p) fine = compared-short (codes "P<") p (omega arith) fine
bound-short AskMax fine = omega arith
bound-short AskMin fine = omega arith

-- a bound whose thresholds denote numbers
compared-fine : (sign : List ℕ) (ts : List (List ℕ)) (p : Fraction) → IsComparison sign ts p → IsFine p
compared-fine sign ts p is = let t = is.2 in (t.small, t.value.fraction.fine)

pub bound-fine : (ts : List (List ℕ)) (bound : Bound) → IsBound ts bound → HasFine bound
bound-fine ts (AtLeast p) is = compared-fine (codes ">=") ts p is
bound-fine ts (Above p) is = compared-fine (codes ">") ts p is
bound-fine ts (AtMost p) is = compared-fine (codes "<=") ts p is
bound-fine ts (Below p) is = compared-fine (codes "<") ts p is
bound-fine ts AskMax is = tt
bound-fine ts AskMin is = tt

number-some : (token : List ℕ) → is_number token ≡ true → 1 ≤ length token
number-some [] is = cc (is)
number-some (b ∷ bytes) is = omega arith

-- a comparison has at least three bytes
compared-some : (sign : List ℕ) (ts : List (List ℕ)) (p : Fraction) → 1 ≤ length sign
    → IsComparison sign ts p → 3 ≤ bytes_in ts
compared-some sign ts p some is = let t = is.2 in omega (arith, some, ap bytes_in is.1, number-some is.0 t.number)

pub bound-some : (ts : List (List ℕ)) (bound : Bound) → IsBound ts bound → Compares bound → 3 ≤ bytes_in ts
bound-some ts (AtLeast p) is compares = compared-some (codes ">=") ts p (omega arith) is
bound-some ts (Above p) is compares = compared-some (codes ">") ts p (omega arith) is
bound-some ts (AtMost p) is compares = compared-some (codes "<=") ts p (omega arith) is
bound-some ts (Below p) is compares = compared-some (codes "<") ts p (omega arith) is
bound-some ts AskMax is compares = absurd compares
bound-some ts AskMin is compares = absurd compares

-- a coalition, a bound and a path
pub with-short : (team : Option (List (List ℕ))) (bound : Bound) (kind : PathKind) (left : State) (x y : List ℕ)
    → HasFine bound → length (spelling_with team bound kind left x y)
    ≤ length (coalition_spelling team) + (138 + (length (kind_spelling kind left x) + length y))
with-short team bound kind left x y fine =
    let front = kind_spelling kind left x in
    let behind = codes " " ++ (y ++ codes " ]") in
    omega (
      arith,
      length-append (coalition_spelling team) (bound_spelling bound ++ (codes " [ " ++ (front ++ behind))),
      length-append (bound_spelling bound) (codes " [ " ++ (front ++ behind)),
      length-append front behind,
      length-append y (codes " ]"),
      bound-short bound fine,
    )

pub formula-bytes : (team asks sides : List (List ℕ))
    → bytes_in (formula_of team asks sides) ≡ bytes_in team + (bytes_in asks + (2 + bytes_in sides))
formula-bytes team asks sides =
    omega (
      arith,
      bytes_in-append team (asks ++ codes "[" ∷ (sides ++ codes "]" ∷ [])),
      bytes_in-append asks (codes "[" ∷ (sides ++ codes "]" ∷ [])),
      bytes_in-append sides (codes "]" ∷ []),
    )
