-- How long the spelling of a formula is at most: thirty bytes for each byte of the text that denotes it,
-- and some for its threshold.
use Rattle.std.proofs.Common.{◌≡◌, ◌≤◌, ◌+◌, ◌-◌, ◌*◌, ℕ, Bool, true, false, List, [], ◌∷◌, ◌++◌, length, drop, refl}
use Rattle.std.proofs.Common.{ap, arith}
use Rattle.std.specs.Prelude.{nat_lt, codes, if◌then◌else◌}
use Rattle.std.proofs.lemmas.List.{length-append, length-take}
use Rattle.formula_reader.specs.Formula.{State, True, Not, Tree}
use Rattle.formula_tokens.specs.Reading.{is_quoted, unquoted}
use Rattle.formula_reader.specs.declared.formula.PathKind.{PathKind}
use Rattle.formula_reader.specs.declared.formula.PathKind.TheVariants.{Until, Always}
use Rattle.rpatl_syntax.specs.Dual.{dual_of, answered_by, answered}
use Rattle.formula_tokens.specs.Limits.{longest}
use Rattle.formula_reader.specs.Rules.{between, IsState, IsEither, IsBoth, IsUnary, IsPath, plain_state, implies}
use Rattle.formula_reader.specs.Rules.{plain_either, or, plain_both, and, negation, brackets, everywhere, nowhere}
use Rattle.formula_reader.specs.Rules.{label}
use Rattle.formula_reader.specs.Rules.{inside, reach, reach_within, until, until_within, next, always, IsFormula}
use Rattle.formula_reader.specs.Rules.{DenotesFormula}
use Rattle.rpatl_syntax.specs.Spelling.{strength_of, in_place, state_spelling, kind_spelling, coalition_spelling}
use Rattle.rpatl_syntax.specs.Spelling.{spelling}
use Rattle.output.proofs.PlainParts.{HasFine, HasPlainParts, answered-plain}
use Rattle.output.proofs.ShortParts.{bytes_in, bytes_in-append, cut-short, until-short, within-short}
use Rattle.output.proofs.ShortParts.{coalition-short, bound-fine, bound-some, with-short, formula-bytes}

-- 1. The spelling of a state formula, and of a path.

in_place-short : (least : ℕ) (x : State) (text : List ℕ) → length (in_place least x text) ≤ length text + 2
in_place-short least x text = by (nat_lt (strength_of x) least)
  where
    by : (b : Bool) → length (if b then codes "(" ++ (text ++ codes ")") else text) ≤ length text + 2
    by true = omega (arith, length-append text (codes ")"))
    by false = omega arith

-- two operands in their places, and the sign between them
operands-short : (least other : ℕ) (x y : State) (sign : List ℕ) → length sign ≤ 4
    → length (in_place least x (state_spelling x) ++ (sign ++ in_place other y (state_spelling y)))
    ≤ length (state_spelling x) + (8 + length (state_spelling y))
operands-short least other x y sign small =
    let left = in_place least x (state_spelling x) in
    let right = in_place other y (state_spelling y) in
    omega (
      arith,
      small,
      length-append left (sign ++ right),
      length-append sign right,
      in_place-short least x (state_spelling x),
      in_place-short other y (state_spelling y),
    )

-- a quoted name in its quotes
named-short : (token : List ℕ) → is_quoted token ≡ true → length (unquoted token) + 1 ≤ length token
named-short [] quoted = cc (quoted)
named-short (b ∷ bytes) quoted = omega (arith, length-take (length (b ∷ bytes) - 2) (drop 1 (b ∷ bytes)))

-- thirty bytes for each byte of the tokens are enough, even with eight more: a sign has four at most,
-- the brackets of each side two, and a threshold 129
abbrev Fits : List (List ℕ) → State → Type 0
Fits ts x = length (state_spelling x) + 8 ≤ 30 * bytes_in ts

both-fit : (least other : ℕ) (ts us : List (List ℕ)) (x y : State) (sign mark : List ℕ) → length sign ≤ 4 → Fits ts x
    → Fits us y → length (in_place least x (state_spelling x) ++ (sign ++ in_place other y (state_spelling y))) + 8
    ≤ 30 * bytes_in (between ts mark us)
both-fit least other ts us x y sign mark small a b =
    omega (arith, operands-short least other x y sign small, bytes_in-append ts (mark ∷ us), a, b)

-- what stands before the right side, and this side
abbrev PathFits : List (List ℕ) → PathKind → State → State → Type 0
PathFits ts kind x y =
    length (kind_spelling kind x (state_spelling x)) + (1 + length (state_spelling y)) ≤ 30 * bytes_in ts

mutual
  unary-fits : (room : ℕ) (ts : List (List ℕ)) (x : State) → IsUnary room ts x → Fits ts x
  unary-fits _ _ _ (negation room ts x d) = omega (arith, unary-fits room ts x d, in_place-short 3 x (state_spelling x))
  unary-fits _ _ _ (brackets room ts x d) = omega (arith, state-fits room ts x d, bytes_in-append ts (codes ")" ∷ []))
  unary-fits _ _ _ (everywhere room) = omega arith
  unary-fits _ _ _ (nowhere room) = omega arith
  unary-fits _ _ _ (label room quote quoted) =
      omega (arith, named-short quote quoted, length-append (unquoted quote) (codes "\""))
  unary-fits _ _ _ (inside room team asks sides f named asked compares d) =
      omega (
        arith,
        with-short f.coalition f.bound f.kind f.left (state_spelling f.left) (state_spelling f.right)
            (bound-fine asks f.bound asked),
        coalition-short team f.coalition named,
        bound-some asks f.bound asked compares,
        formula-bytes team asks sides,
        path-fits room sides f.kind f.left f.right d,
      )

  both-fits : (room : ℕ) (ts : List (List ℕ)) (x : State) → IsBoth room ts x → Fits ts x
  both-fits _ _ _ (plain_both room ts x d) = unary-fits room ts x d
  both-fits _ _ _ (and room ts us x y d e) =
      both-fit 2 3 ts us x y (codes " & ") (codes "&") (omega arith) (both-fits room ts x d) (unary-fits room us y e)

  either-fits : (room : ℕ) (ts : List (List ℕ)) (x : State) → IsEither room ts x → Fits ts x
  either-fits _ _ _ (plain_either room ts x d) = both-fits room ts x d
  either-fits _ _ _ (or room ts us x y d e) =
      both-fit 1 2 ts us x y (codes " | ") (codes "|") (omega arith) (either-fits room ts x d) (both-fits room us y e)

  state-fits : (room : ℕ) (ts : List (List ℕ)) (x : State) → IsState room ts x → Fits ts x
  state-fits _ _ _ (plain_state room ts x d) = either-fits room ts x d
  state-fits _ _ _ (implies room ts us x y d e) = both-fit 0 1 ts us x y (codes " => ") (codes "=>") (omega arith)
      (state-fits room ts x d) (either-fits room us y e)

  path-fits : (room : ℕ) (ts : List (List ℕ)) (kind : PathKind) (x y : State) → IsPath room ts kind x y
      → PathFits ts kind x y
  path-fits _ _ _ _ _ (reach room ts y d) = omega (arith, state-fits room ts y d)
  path-fits _ _ _ _ _ (reach_within room number ts k y few d) =
      omega (arith, within-short True (state_spelling True) k few.small, state-fits room ts y d)
  path-fits _ _ _ _ _ (until room ts us x y d e) = omega (
    arith,
    until-short x (state_spelling x),
    state-fits room ts x d,
    state-fits room us y e,
    bytes_in-append ts (codes "U" ∷ us),
  )
  path-fits _ _ _ _ _ (until_within room ts number us k x y d few e) =
      omega (
        arith,
        within-short x (state_spelling x) k few.small,
        until-short x (state_spelling x),
        state-fits room ts x d,
        state-fits room us y e,
        bytes_in-append ts (codes "U" ∷ codes "<=" ∷ number ∷ us),
      )
  path-fits _ _ _ _ _ (next room ts y d) = omega (arith, state-fits room ts y d)
  path-fits _ _ _ _ _ (always room ts y d) = omega (arith, state-fits room ts y d)

-- the path of the dual of `G`
dual-fits : (room : ℕ) (ts : List (List ℕ)) (kind : PathKind) (x y : State) → IsPath room ts kind x y → kind ≡ Always
    → PathFits ts Until True (Not y)
dual-fits _ _ _ _ _ (reach room ts y d) is = absurd (cc (is))
dual-fits _ _ _ _ _ (reach_within room number ts k y few d) is = absurd (cc (is))
dual-fits _ _ _ _ _ (until room ts us x y d e) is = absurd (cc (is))
dual-fits _ _ _ _ _ (until_within room ts number us k x y d few e) is = absurd (cc (is))
dual-fits _ _ _ _ _ (next room ts y d) is = absurd (cc (is))
dual-fits _ _ _ _ _ (always room ts y d) is =
    omega (arith, in_place-short 3 y (state_spelling y), state-fits room ts y d)

-- 2. The whole formula.

-- a formula for the coalition of these tokens, with a path that is no longer than theirs
parts-short : (ts : List (List ℕ)) (f g : Tree) (is : IsFormula ts f) → g.coalition ≡ f.coalition → HasFine g.bound
    → PathFits is.sides g.kind g.left g.right → length (spelling g) ≤ 30 * bytes_in ts + 138
parts-short ts f g is same fine short =
    omega (
      arith,
      ap bytes_in is.whole,
      formula-bytes is.team is.asks is.sides,
      with-short g.coalition g.bound g.kind g.left (state_spelling g.left) (state_spelling g.right) fine,
      ap (λ c. length (coalition_spelling c)) same,
      coalition-short is.team f.coalition is.coalition,
      short,
    )

-- the formula whose question is answered
answered-short : (ts : List (List ℕ)) (f : Tree) → IsFormula ts f → HasPlainParts (answered f)
    → length (spelling (answered f)) ≤ 30 * bytes_in ts + 138
answered-short ts f is parts = by f.kind refl parts
  where
    by : (kind : PathKind) → f.kind ≡ kind → HasPlainParts (answered_by kind f)
        → length (spelling (answered_by kind f)) ≤ 30 * bytes_in ts + 138
    by Always of plain =
        parts-short ts f (dual_of f) is refl plain.fine (dual-fits _ is.sides f.kind f.left f.right is.path of)
    by kind of plain = parts-short ts f f is refl plain.fine (path-fits _ is.sides f.kind f.left f.right is.path)

-- the most bytes of the spelling of a formula that was read, or of its dual
abbrev pub most_spelled : ℕ
most_spelled = 30 * longest + 138

pub spelling-short : (text : List ℕ) (f : Tree) → DenotesFormula text f → HasPlainParts f
    → length (spelling (answered f)) ≤ most_spelled
spelling-short text f denotes parts = omega (
  arith,
  denotes.short,
  cut-short text denotes.tokens denotes.cut,
  answered-short denotes.tokens f denotes.formula (answered-plain f parts),
)
