-- A text denotes no formula with more formulas inside than it has bytes.
use Rattle.std.proofs.Common.{◌+◌, ◌≤◌, ℕ, suc, List, [], ◌∷◌, ◌++◌, length, arith, ap}
use Rattle.std.specs.Prelude.{codes}
use Rattle.std.proofs.lemmas.List.{length-append}
use Rattle.formula_reader.specs.declared.formula.PathKind.{PathKind}
use Rattle.formula_reader.specs.Formula.{State, Tree, formulas_in, formulas_inside}
use Rattle.formula_tokens.specs.Limits.{longest}
use Rattle.formula_tokens.specs.TokenRules.{IsSpelling, word, number, quoted_name, long_sign, short_sign, AreCut}
use Rattle.formula_tokens.specs.TokenRules.{nothing}
use Rattle.formula_tokens.specs.TokenRules.{blank, token}
use Rattle.formula_reader.specs.Rules.{between, formula_of, IsState, IsEither, IsBoth, IsUnary, IsPath, plain_state}
use Rattle.formula_reader.specs.Rules.{implies, plain_either, or, plain_both, and, negation, brackets, everywhere}
use Rattle.formula_reader.specs.Rules.{nowhere, label, inside, reach, reach_within, until, until_within, next, always}
use Rattle.formula_reader.specs.Rules.{DenotesFormula}

-- 1. Each formula inside has a token of its own.

joined_few : (us : List (List ℕ)) (sign : List ℕ) (vs : List (List ℕ)) (m n : ℕ) → m ≤ length us → n ≤ length vs
    → m + n ≤ length (between us sign vs)
joined_few us sign vs m n a b = omega (arith, a, b, length-append us (sign ∷ vs))

closed_few : (us : List (List ℕ)) (open_ close : List ℕ) (n : ℕ) → n ≤ length us
    → suc n ≤ length (open_ ∷ (us ++ close ∷ []))
closed_few us open_ close n h = omega (arith, h, length-append us (close ∷ []))

inside_few : (team asks us : List (List ℕ)) (n : ℕ) → n ≤ length us → suc n ≤ length (formula_of team asks us)
inside_few team asks us n h =
    omega (
      arith,
      closed_few us (codes "[") (codes "]") n h,
      length-append team (asks ++ codes "[" ∷ (us ++ codes "]" ∷ [])),
      length-append asks (codes "[" ∷ (us ++ codes "]" ∷ [])),
    )

mutual
  unary_few : (room : ℕ) (us : List (List ℕ)) (x : State) → IsUnary room us x → formulas_in x ≤ length us
  unary_few _ _ _ (negation room us x d) = omega (arith, unary_few room us x d)
  unary_few _ _ _ (brackets room us x d) =
      omega (arith, closed_few us (codes "(") (codes ")") (formulas_in x) (state_few room us x d))
  unary_few _ _ _ (everywhere room) = omega arith
  unary_few _ _ _ (nowhere room) = omega arith
  unary_few _ _ _ (label room token_ q) = omega arith
  unary_few _ _ _ (inside room team asks us f n b c d) =
      inside_few team asks us (formulas_in f.left + formulas_in f.right) (path_few room us f.kind f.left f.right d)

  both_few : (room : ℕ) (us : List (List ℕ)) (x : State) → IsBoth room us x → formulas_in x ≤ length us
  both_few _ _ _ (plain_both room us x d) = unary_few room us x d
  both_few _ _ _ (and room us vs x y d e) =
      joined_few us (codes "&") vs (formulas_in x) (formulas_in y) (both_few room us x d) (unary_few room vs y e)

  either_few : (room : ℕ) (us : List (List ℕ)) (x : State) → IsEither room us x → formulas_in x ≤ length us
  either_few _ _ _ (plain_either room us x d) = both_few room us x d
  either_few _ _ _ (or room us vs x y d e) =
      joined_few us (codes "|") vs (formulas_in x) (formulas_in y) (either_few room us x d) (both_few room vs y e)

  state_few : (room : ℕ) (us : List (List ℕ)) (x : State) → IsState room us x → formulas_in x ≤ length us
  state_few _ _ _ (plain_state room us x d) = either_few room us x d
  state_few _ _ _ (implies room us vs x y d e) =
      joined_few us (codes "=>") vs (formulas_in x) (formulas_in y) (state_few room us x d) (either_few room vs y e)

  path_few : (room : ℕ) (us : List (List ℕ)) (kind : PathKind) (x y : State) → IsPath room us kind x y
      → formulas_in x + formulas_in y ≤ length us
  path_few _ _ _ _ _ (reach room us y d) = omega (arith, state_few room us y d)
  path_few _ _ _ _ _ (reach_within room token_ us k y n d) = omega (arith, state_few room us y d)
  path_few _ _ _ _ _ (until room us vs x y d e) =
      joined_few us (codes "U") vs (formulas_in x) (formulas_in y) (state_few room us x d) (state_few room vs y e)
  path_few _ _ _ _ _ (until_within room us token_ vs k x y d n e) =
      joined_few us (codes "U") (codes "<=" ∷ token_ ∷ vs) (formulas_in x) (formulas_in y) (state_few room us x d)
      (omega (arith, state_few room vs y e))
  path_few _ _ _ _ _ (next room us y d) = omega (arith, state_few room us y d)
  path_few _ _ _ _ _ (always room us y d) = omega (arith, state_few room us y d)

-- 2. Each token has a byte of its own.

some_bytes : (spelling : List ℕ) → IsSpelling spelling → 1 ≤ length spelling
some_bytes _ (word b bytes w a) = omega arith
some_bytes _ (number b bytes d a) = omega arith
some_bytes _ (quoted_name name is) = omega arith
some_bytes _ (long_sign b c e) = omega arith
some_bytes _ (short_sign b e) = omega arith

few_tokens : (text : List ℕ) (tokens : List (List ℕ)) → AreCut text tokens → length tokens ≤ length text
few_tokens _ _ nothing = omega arith
few_tokens _ _ (blank b rest tokens is d) = omega (arith, few_tokens rest tokens d)
few_tokens _ _ (token spelling rest tokens l d) =
    omega (arith, few_tokens rest tokens d, some_bytes spelling l.is, length-append spelling rest)

pub few_inside : (text : List ℕ) (f : Tree) → DenotesFormula text f → formulas_inside f ≤ longest
few_inside text f d =
    let g = d.formula in
    let inner =
    inside_few g.team g.asks g.sides (formulas_inside f) (path_few _ g.sides f.kind f.left f.right g.path) in
    omega (arith, inner, ap length g.whole, few_tokens text d.tokens d.cut, d.short)
