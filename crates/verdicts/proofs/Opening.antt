-- A threshold that is undecided is left open, by these bounds and by wider ones.
use Rattle.std.proofs.Common.{◌≡◌, ℕ, ◌+◌, ◌*◌, ◌≤◌, Bool, true, false, not, arith, refl}
use Rattle.std.proofs.lemmas.Bool.{leb-true, leb-false, ltb-true, ltb-false}
use Rattle.std.proofs.Math.Nat.{mul-le-mul_right}
use Rattle.game_model.specs.Limits.{unit}
use Rattle.fractions.specs.Fraction.{Fraction}
use Rattle.formula_reader.specs.declared.formula.Bound.{Bound}
use Rattle.formula_reader.specs.declared.formula.Bound.TheVariants.{AtLeast, Above, AtMost, Below, AskMax, AskMin}
use Rattle.verdicts.specs.declared.verdict.Verdict.TheVariants.{Undecided}
use Rattle.verdicts.specs.Verdict.{reaches, exceeds, verdict_by, verdict_of}
use Rattle.verdicts.specs.Open.{IsBelowLess, IsAtMostLess, IsAtLeastMore, IsAboveMore, LeavesOpen}

-- neither test holds
undecided-by : (holds fails : Bool) → verdict_by holds fails ≡ Undecided → (holds ≡ false) × (fails ≡ false)
undecided-by true fails is = absurd (cc)
undecided-by false true is = absurd (cc)
undecided-by false false is = (refl, refl)

is-true : (b : Bool) → not b ≡ false → b ≡ true
is-true true is = refl
is-true false is = absurd (cc)

below-here : (p : Fraction) (l : ℕ) → reaches p l ≡ false → IsBelowLess p l 1 0
below-here p l not_reached = omega (arith, leb-false (p.num * unit) (l * p.den) not_reached)

at_least-here : (p : Fraction) (u : ℕ) → reaches p u ≡ true → IsAtLeastMore p u 1 0
at_least-here p u reached = omega (arith, leb-true (p.num * unit) (u * p.den) reached)

at_most-here : (p : Fraction) (l : ℕ) → exceeds p l ≡ false → IsAtMostLess p l 1 0
at_most-here p l not_exceeded = omega (arith, ltb-false (p.num * unit) (l * p.den) not_exceeded)

above-here : (p : Fraction) (u : ℕ) → exceeds p u ≡ true → IsAboveMore p u 1 0
above-here p u exceeded = omega (arith, ltb-true (p.num * unit) (u * p.den) exceeded)

pub open-here : (bound : Bound) (lower upper : ℕ) → verdict_of bound lower upper ≡ Undecided
    → LeavesOpen bound lower upper 1 0
open-here (AtLeast p) l u is =
    let tests = undecided-by (reaches p l) (not (reaches p u)) is in
    (below-here p l tests.0, at_least-here p u (is-true (reaches p u) tests.1))
open-here (Above p) l u is =
    let tests = undecided-by (exceeds p l) (not (exceeds p u)) is in
    (at_most-here p l tests.0, above-here p u (is-true (exceeds p u) tests.1))
open-here (AtMost p) l u is =
    let tests = undecided-by (not (exceeds p u)) (exceeds p l) is in
    (at_most-here p l tests.1, above-here p u (is-true (exceeds p u) tests.0))
open-here (Below p) l u is =
    let tests = undecided-by (not (reaches p u)) (reaches p l) is in
    (below-here p l tests.1, at_least-here p u (is-true (reaches p u) tests.0))
open-here AskMax l u is = absurd (cc)
open-here AskMin l u is = absurd (cc)

-- a lower bound that is at most r units above n/d
module _ (p : Fraction) (l n d r : ℕ) (some : 1 ≤ d) (near : n ≤ (l + r) * d) where
  below-wider : IsBelowLess p l 1 0 → IsBelowLess p n d r
  below-wider below =
      let strict : l * p.den + r * p.den + 1 ≤ p.num * unit + r * p.den = omega (arith, below) in
      omega (arith, some, mul-le-mul_right p.den near, mul-le-mul_right d strict)

  at_most-wider : IsAtMostLess p l 1 0 → IsAtMostLess p n d r
  at_most-wider below =
      let less : l * p.den + r * p.den ≤ p.num * unit + r * p.den = omega (arith, below) in
      omega (arith, mul-le-mul_right p.den near, mul-le-mul_right d less)

-- and an upper bound that is at most r units below m/d
module _ (p : Fraction) (u m d r : ℕ) (some : 1 ≤ d) (near : u * d ≤ m + r * d) where
  at_least-wider : IsAtLeastMore p u 1 0 → IsAtLeastMore p m d r
  at_least-wider above =
      let more : p.num * unit ≤ u * p.den = omega (arith, above) in
      omega (arith, mul-le-mul_right p.den near, mul-le-mul_right d more)

  above-wider : IsAboveMore p u 1 0 → IsAboveMore p m d r
  above-wider above =
      let strict : p.num * unit + 1 ≤ u * p.den = omega (arith, above) in
      omega (arith, some, mul-le-mul_right p.den near, mul-le-mul_right d strict)

pub open-wider : (bound : Bound) (lower upper n m d r : ℕ) → 1 ≤ d → n ≤ (lower + r) * d → upper * d ≤ m + r * d
    → LeavesOpen bound lower upper 1 0 → LeavesOpen bound n m d r
open-wider (AtLeast p) l u n m d r some under over left =
    (below-wider p l n d r some under left.0, at_least-wider p u m d r some over left.1)
open-wider (Above p) l u n m d r some under over left =
    (at_most-wider p l n d r some under left.0, above-wider p u m d r some over left.1)
open-wider (AtMost p) l u n m d r some under over left =
    (at_most-wider p l n d r some under left.0, above-wider p u m d r some over left.1)
open-wider (Below p) l u n m d r some under over left =
    (below-wider p l n d r some under left.0, at_least-wider p u m d r some over left.1)
open-wider AskMax l u n m d r some under over left = left
open-wider AskMin l u n m d r some under over left = left
