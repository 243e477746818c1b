-- The dual of a formula with `G` says the same about the other paths, which come to a state where the right side fails.
use Rattle.std.specs.Prelude.{ℕ, ◌*◌, ◌<◌, ◌≤◌}
use Rattle.fractions.specs.Fraction.{rest_of}
use Rattle.formula_reader.specs.declared.formula.Bound.{Bound}
use Rattle.formula_reader.specs.declared.formula.Bound.TheVariants.{AtLeast, Above, AtMost, Below, AskMax, AskMin}
use Rattle.formula_reader.specs.declared.formula.PathKind.{PathKind}
use Rattle.formula_reader.specs.declared.formula.PathKind.TheVariants.{Until, Within, Next, Always}
use Rattle.formula_reader.specs.Formula.{True, Not, Tree}

-- The threshold, if there is one, is at most 1.
abbrev pub IsAtMostOne : Bound → Type 0
IsAtMostOne (AtLeast p) = p.num ≤ p.den
IsAtMostOne (Above p) = p.num ≤ p.den
IsAtMostOne (AtMost p) = p.num ≤ p.den
IsAtMostOne (Below p) = p.num ≤ p.den
IsAtMostOne AskMax = Unit {0}
IsAtMostOne AskMin = Unit {0}

-- The bound is met by n parts of a whole. A question for a value has no bound to meet.
abbrev pub IsMetBy : Bound → ℕ → ℕ → Type 0
IsMetBy (AtLeast p) n whole = p.num * whole ≤ n * p.den
IsMetBy (Above p) n whole = p.num * whole < n * p.den
IsMetBy (AtMost p) n whole = n * p.den ≤ p.num * whole
IsMetBy (Below p) n whole = n * p.den < p.num * whole
IsMetBy AskMax n whole = Unit {0}
IsMetBy AskMin n whole = Unit {0}

-- A probability meets a bound exactly if 1 minus the probability meets this dual bound.
abbrev pub dual_bound : Bound → Bound
dual_bound (AtLeast p) = AtMost (rest_of p)
dual_bound (Above p) = Below (rest_of p)
dual_bound (AtMost p) = AtLeast (rest_of p)
dual_bound (Below p) = Above (rest_of p)
dual_bound AskMax = AskMin
dual_bound AskMin = AskMax

-- The dual of a formula with `G y` has the dual bound on `F !y`.
abbrev pub dual_of : Tree → Tree
dual_of f = record {
  coalition = f.coalition;
  bound = dual_bound f.bound;
  kind = Until;
  left = True;
  right = Not f.right;
}

-- This formula is answered in place of one with a path of this kind: with `G` it is the dual.
abbrev pub answered_by : PathKind → Tree → Tree
answered_by Until f = f
answered_by (Within k) f = f
answered_by Next f = f
answered_by Always f = dual_of f

-- This formula is answered in place of `f`: with `G` it is the dual on `F`, and otherwise `f` itself.
abbrev pub answered : Tree → Tree
answered f = answered_by f.kind f
