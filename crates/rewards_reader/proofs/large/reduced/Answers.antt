use Rattle.std.proofs.Common.{◌≤◌, ◌<◌, ◌/◌, ◌∙◌, ℕ, sym, ap, subst}
use Rattle.std.specs.Int.{IsGcd}
use Rattle.fractions.specs.Fraction.{Fraction}
use Rattle.fractions.specs.Limits.{finest}
use Rattle.fractions.proofs.Euclid.{gcd-pos, coprime-div, lowest-pos}
use Rattle.rewards_reader.specs.Amounts.{amount_within}
use Rattle.rewards_reader.proofs.Amounts.{large-found, amount-above_zero}
use Rattle.rewards_reader.proofs.large.reduced.Goals as goal

pub nonzero_div-above : goal.nonzero_div-above
nonzero_div-above c =
    let P : ℕ → Type 0 = λ n. 0 < n in
    subst P (sym c.greatest_common_divisor-divisor.ensures)
    (gcd-pos c.args.above c.args.below (large-found _ c.requires).divided)

pub nonzero_div-below : goal.nonzero_div-below
nonzero_div-below c =
    let P : ℕ → Type 0 = λ n. 0 < n in
    subst P (sym c.greatest_common_divisor-divisor.ensures)
    (gcd-pos c.args.above c.args.below (large-found _ c.requires).divided)

pub checked-requires-clause-lowest : goal.checked-requires-clause-lowest
checked-requires-clause-lowest c =
    let P : ℕ → Type 0 = λ n. IsGcd (c.args.above / n) (c.args.below / n) 1 in
    subst P (sym c.greatest_common_divisor-divisor.ensures)
    (coprime-div c.args.above c.args.below (large-found _ c.requires).divided)

pub checked-requires-clause-positive : goal.checked-requires-clause-positive
checked-requires-clause-positive c =
    let P : ℕ → Type 0 = λ n. 1 ≤ c.args.below / n in
    subst P (sym c.greatest_common_divisor-divisor.ensures)
    (lowest-pos (record { num = c.args.above; den = c.args.below }) (large-found _ c.requires).divided)

pub checked-requires-clause-fine : goal.checked-requires-clause-fine
checked-requires-clause-fine c =
    let P : ℕ → Type 0 = λ n. c.args.below / n ≤ finest in
    subst P (sym c.greatest_common_divisor-divisor.ensures) (large-found _ c.requires).fine

pub returns : goal.returns
returns c =
    let fraction : ℕ → Fraction = λ n. record { num = c.args.above / n; den = c.args.below / n } in
    c.checked.ensures
    ∙ ap (λ n. amount_within (fraction n)) c.greatest_common_divisor-divisor.ensures
    ∙ sym (amount-above_zero (record { num = c.args.above; den = c.args.below }) (large-found _ c.requires).divided)
