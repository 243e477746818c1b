use Rattle.std.proofs.Common.{◌≤◌, ◌<◌, ◌/◌, ℕ, sym, subst, rules}
use Rattle.std.specs.Int.{IsGcd}
use Rattle.fractions.proofs.Euclid.{gcd-pos, coprime-div, lowest-pos}
use Rattle.fractions.proofs.lowest.quotient.Goals as goal

pub nonzero_div-above : goal.nonzero_div-above
nonzero_div-above c =
    let P : ℕ → Type 0 = λ n. 0 < n in
    subst P (sym c.greatest_common_divisor-divisor.ensures) (gcd-pos c.args.above c.args.below (search rules))

pub nonzero_div-below : goal.nonzero_div-below
nonzero_div-below c =
    let P : ℕ → Type 0 = λ n. 0 < n in
    subst P (sym c.greatest_common_divisor-divisor.ensures) (gcd-pos c.args.above c.args.below (search rules))

pub checked-requires-clause-lowest : goal.checked-requires-clause-lowest
checked-requires-clause-lowest c =
    let P : ℕ → Type 0 = λ n. IsGcd (c.args.above / n) (c.args.below / n) 1 in
    subst P (sym c.greatest_common_divisor-divisor.ensures) (coprime-div c.args.above c.args.below (search rules))

pub checked-requires-clause-positive : goal.checked-requires-clause-positive
checked-requires-clause-positive c =
    let P : ℕ → Type 0 = λ n. 1 ≤ c.args.below / n in
    subst P (sym c.greatest_common_divisor-divisor.ensures)
    (lowest-pos (record { num = c.args.above; den = c.args.below }) (search rules))
