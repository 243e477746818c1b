use Rattle.std.proofs.Common.{◌*◌, ◌-◌, ◌∙◌, ℕ, sym, ap, arith}
use Rattle.fractions.specs.Fraction.{Fraction}
use Rattle.fractions.specs.Number.{fraction_said}
use Rattle.fractions.proofs.Euclid.{coprime-one}
use Rattle.rewards_reader.specs.Amounts.{amount_of, amount_within}
use Rattle.rewards_reader.proofs.Amounts.{large-shifted, amount-shifted, amount-whole, places-fit, digits-some}
use Rattle.rewards_reader.proofs.Amounts.{many-tens, many-digits}
use Rattle.rewards_reader.proofs.large.large_over_tens.Goals as goal

pub pow-requires : goal.pow-requires
pow-requires c =
    let large = large-shifted c.args.digits c.args.up c.args.down c.if-up-down.true c.requires.large in
    omega (arith, places-fit c.args.digits (c.args.down - c.args.up) c.requires.small large)

pub reduced-requires : goal.reduced-requires
reduced-requires c =
    let fraction : ℕ → Fraction = λ n. record { num = c.args.digits; den = n } in
    ap (λ n. fraction_said (fraction n)) c.pow.ensures
    ∙ large-shifted c.args.digits c.args.up c.args.down c.if-up-down.true c.requires.large

pub returns-then-up-down : goal.returns-then-up-down
returns-then-up-down c =
    let fraction : ℕ → Fraction = λ n. record { num = c.args.digits; den = n } in
    c.reduced.ensures
    ∙ ap (λ n. amount_of (fraction n)) c.pow.ensures
    ∙ sym (amount-shifted c.args.digits c.args.up c.args.down c.if-up-down.true)

pub returns-then-up-down-gt-MOST_REWARD_TENS : goal.returns-then-up-down-gt-MOST_REWARD_TENS
returns-then-up-down-gt-MOST_REWARD_TENS c =
    let some = digits-some c.args.digits c.args.up c.args.down c.requires.large in
    sym (amount-whole c.args.digits c.args.up c.args.down (omega (arith, c.if-up-down.false))
    ∙ many-tens c.args.digits (c.args.up - c.args.down) some (omega arith))

pub returns-then-digits-gt-MOST_REWARD : goal.returns-then-digits-gt-MOST_REWARD
returns-then-digits-gt-MOST_REWARD c =
    sym (amount-whole c.args.digits c.args.up c.args.down (omega (arith, c.if-up-down.false))
    ∙ many-digits c.args.digits (c.args.up - c.args.down) (omega arith))

pub checked-requires-clause-lowest : goal.checked-requires-clause-lowest
checked-requires-clause-lowest c = coprime-one (c.args.digits * c.pow-2.result)

pub returns : goal.returns
returns c =
    let fraction : ℕ → Fraction = λ n. record { num = c.args.digits * n; den = 1 } in
    c.checked.ensures
    ∙ ap (λ n. amount_within (fraction n)) c.pow-2.ensures
    ∙ sym (amount-whole c.args.digits c.args.up c.args.down (omega (arith, c.if-up-down.false)))
