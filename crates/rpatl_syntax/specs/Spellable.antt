-- The grammar can spell these formulas. A formula that a text denotes is one of them, and each of them is read again
-- from its spelling, unless that is too long.
use Rattle.std.specs.Prelude.{◌≡◌, ◌≤◌, ◌+◌, ℕ, true, nat_lt, max, List, Option, Some, None, if◌then◌else◌}
use Rattle.std.specs.List.{list_all, All}
use Rattle.fractions.specs.Fraction.{Fraction, IsFraction}
use Rattle.formula_reader.specs.declared.formula.Bound.{Bound}
use Rattle.formula_reader.specs.declared.formula.Bound.TheVariants.{AtLeast, Above, AtMost, Below, AskMax, AskMin}
use Rattle.formula_reader.specs.declared.formula.PathKind.{PathKind}
use Rattle.formula_reader.specs.declared.formula.PathKind.TheVariants.{Until, Within, Next, Always}
use Rattle.formula_reader.specs.Formula.{State, True, False, Label, Not, And, Or, Implies, Inner, Tree}
use Rattle.formula_tokens.specs.Reading.{is_word}
use Rattle.formula_tokens.specs.TokenRules.{IsName}
use Rattle.formula_reader.specs.Limits.{most_nested, most_steps}
use Rattle.rpatl_syntax.specs.Spelling.{strength_of}
use Rattle.formula_tokens.specs.Tokens.{in_word}

-- The word is a letter or `_`, and then letters, digits and `_`.
pub record IsWholeWord (word : List ℕ) : Type 0 where
  pub begins : is_word word ≡ true
  pub bytes : list_all in_word word ≡ true

-- The players of a coalition have words as names.
abbrev pub HasWords : Option (List (List ℕ)) → Type 0
HasWords None = Unit {0}
HasWords (Some names) = All IsWholeWord names

-- A threshold is a fraction in lowest terms whose denominator is not too great, and is at most 1.
pub record IsShare (p : Fraction) : Type 0 where
  pub fraction : IsFraction p
  pub small : p.num ≤ p.den

-- The bound compares with such a threshold, or it asks for a value.
abbrev pub HasShare : Bound → Type 0
HasShare (AtLeast p) = IsShare p
HasShare (Above p) = IsShare p
HasShare (AtMost p) = IsShare p
HasShare (Below p) = IsShare p
HasShare AskMax = Unit {0}
HasShare AskMin = Unit {0}

-- The bound of a formula inside compares with such a threshold.
abbrev pub HasThreshold : Bound → Type 0
HasThreshold (AtLeast p) = IsShare p
HasThreshold (Above p) = IsShare p
HasThreshold (AtMost p) = IsShare p
HasThreshold (Below p) = IsShare p
HasThreshold AskMax = ⊥
HasThreshold AskMin = ⊥

-- The steps of the path are not too many, and the left side of `X` and `G` is `true`.
abbrev pub HasKind : PathKind → State → Type 0
HasKind Until left = Unit {0}
HasKind (Within k) left = k ≤ most_steps
HasKind Next left = left ≡ True
HasKind Always left = left ≡ True

-- The parts before the sides of a formula inside can be spelled.
pub record HasHead (team : Option (List (List ℕ))) (bound : Bound) (kind : PathKind) (left : State) : Type 0 where
  pub words : HasWords team
  pub threshold : HasThreshold bound
  pub kind_is : HasKind kind left

-- Each label has a name that can be quoted, and each formula inside has a head that can be spelled.
abbrev pub HasParts : State → Type 0
HasParts True = Unit {0}
HasParts False = Unit {0}
HasParts (Label name) = IsName name
HasParts (Not x) = HasParts x
HasParts (And x y) = HasParts x × HasParts y
HasParts (Or x y) = HasParts x × HasParts y
HasParts (Implies x y) = HasParts x × HasParts y
HasParts (Inner team bound kind left right) = HasHead team bound kind left × HasParts left × HasParts right

-- In a place for formulas that bind at least this tightly, a formula that takes brackets needs one more open sign.
abbrev pub need_in : ℕ → State → ℕ → ℕ
need_in least x inner = if nat_lt (strength_of x) least then inner + 1 else inner

-- At most this many `(`, `!` and `[` are open at once in the spelling, which has only the brackets that it needs.
abbrev pub need : State → ℕ
need True = 0
need False = 0
need (Label name) = 0
need (Not x) = need_in 3 x (need x) + 1
need (And x y) = max (need_in 2 x (need x)) (need_in 3 y (need y))
need (Or x y) = max (need_in 1 x (need x)) (need_in 2 y (need y))
need (Implies x y) = max (need_in 0 x (need x)) (need_in 1 y (need y))
need (Inner team bound kind left right) = max (need left) (need right) + 1

-- The parts of a side of a path can be spelled, and its spelling does not nest too deep.
pub record IsSide (x : State) : Type 0 where
  pub parts : HasParts x
  pub nests : need x ≤ most_nested

-- The grammar can spell each part of the formula.
pub record IsSpellable (f : Tree) : Type 0 where
  pub words : HasWords f.coalition
  pub share : HasShare f.bound
  pub kind : HasKind f.kind f.left
  pub left : IsSide f.left
  pub right : IsSide f.right
