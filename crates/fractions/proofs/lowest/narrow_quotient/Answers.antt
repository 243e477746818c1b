use Rattle.std.proofs.Common.{◌≤◌, ◌<◌, ◌/◌, ℕ, sym, subst, arith}
use Rattle.std.specs.Int.{IsGcd}
use Rattle.fractions.proofs.Euclid.{gcd-pos, coprime-div, lowest-pos}
use Rattle.fractions.proofs.lowest.narrow_quotient.Goals as goal

pub nonzero_div-above : goal.nonzero_div-above
nonzero_div-above c =
    let P : ℕ → Type 0 = λ n. 0 < n in
    subst P (sym c.narrow_divisor-divisor.ensures) (gcd-pos c.args.above c.args.below c.requires)

pub nonzero_div-below : goal.nonzero_div-below
nonzero_div-below c =
    let P : ℕ → Type 0 = λ n. 0 < n in
    subst P (sym c.narrow_divisor-divisor.ensures) (gcd-pos c.args.above c.args.below c.requires)

pub checked-requires-clause-lowest : goal.checked-requires-clause-lowest
checked-requires-clause-lowest c =
    let P : ℕ → Type 0 = λ n. IsGcd (c.args.above / n) (c.args.below / n) 1 in
    let Q : ℕ → Type 0 = λ n. IsGcd n (c.args.below / c.narrow_divisor-divisor.result) 1 in
    let R : ℕ → Type 0 = λ n. IsGcd c.from.result n 1 in
    subst R (sym c.from-2.ensures) (subst Q (sym c.from.ensures)
    (subst P (sym c.narrow_divisor-divisor.ensures) (coprime-div c.args.above c.args.below c.requires)))

pub checked-requires-clause-positive : goal.checked-requires-clause-positive
checked-requires-clause-positive c =
    let P : ℕ → Type 0 = λ n. 1 ≤ c.args.below / n in
    omega (
      arith,
      c.from-2.ensures,
      subst P (sym c.narrow_divisor-divisor.ensures)
          (lowest-pos (record { num = c.args.above; den = c.args.below }) c.requires),
    )
