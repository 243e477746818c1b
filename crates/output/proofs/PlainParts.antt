-- Formulas whose parts are plain: what the grammar can spell, and the dual of that.
use Rattle.std.proofs.Common.{◌≤◌, arith}
use Rattle.fractions.specs.Fraction.{Fraction}
use Rattle.fractions.specs.Limits.{finest}
use Rattle.formula_reader.specs.declared.formula.Bound.{Bound}
use Rattle.formula_reader.specs.declared.formula.Bound.TheVariants.{AtLeast, Above, AtMost, Below, AskMax, AskMin}
use Rattle.formula_reader.specs.declared.formula.PathKind.{PathKind}
use Rattle.formula_reader.specs.declared.formula.PathKind.TheVariants.{Until, Within, Next, Always}
use Rattle.rpatl_syntax.specs.Dual.{dual_bound, answered_by, answered}
use Rattle.formula_reader.specs.Formula.{Tree}
use Rattle.rpatl_syntax.specs.Spellable.{HasWords, HasShare, HasThreshold, HasKind, HasParts, IsSpellable}

-- a threshold is at most 1, and its denominator not too great
abbrev pub IsFine : Fraction → Type 0
IsFine p = (p.num ≤ p.den) × (p.den ≤ finest)

abbrev pub HasFine : Bound → Type 0
HasFine (AtLeast p) = IsFine p
HasFine (Above p) = IsFine p
HasFine (AtMost p) = IsFine p
HasFine (Below p) = IsFine p
HasFine AskMax = Unit {0}
HasFine AskMin = Unit {0}

-- words, a fine threshold, few steps and sides whose parts can be spelled
pub record HasPlainParts (f : Tree) : Type 0 where
  pub words : HasWords f.coalition
  pub fine : HasFine f.bound
  pub kind : HasKind f.kind f.left
  pub left : HasParts f.left
  pub right : HasParts f.right

share-fine : (bound : Bound) → HasShare bound → HasFine bound
share-fine AskMax share = tt
share-fine AskMin share = tt
share-fine bound share = (share.small, share.fraction.fine)

-- that of a formula inside too
pub threshold-fine : (bound : Bound) → HasThreshold bound → HasFine bound
threshold-fine AskMax share = absurd share
threshold-fine AskMin share = absurd share
threshold-fine bound share = (share.small, share.fraction.fine)

pub spellable-plain : (f : Tree) → IsSpellable f → HasPlainParts f
spellable-plain f is = record {
  words = is.words;
  fine = share-fine f.bound is.share;
  kind = is.kind;
  left = is.left.parts;
  right = is.right.parts;
}

dual-fine : (bound : Bound) → HasFine bound → HasFine (dual_bound bound)
dual-fine AskMax fine = tt
dual-fine AskMin fine = tt
dual-fine bound fine = (omega arith, fine.1)

-- so has the formula whose question is answered
pub answered-plain : (f : Tree) → HasPlainParts f → HasPlainParts (answered f)
answered-plain f parts = by f.kind
  where
    by : (kind : PathKind) → HasPlainParts (answered_by kind f)
    by Until = parts
    by (Within steps) = parts
    by Next = parts
    by Always =
        record { words = parts.words; fine = dual-fine f.bound parts.fine; kind = tt; left = tt; right = parts.right }
