use Rattle.std.proofs.Common.{ℕ, sym, subst}
use Rattle.std.specs.Int.{IsGcd}
use Rattle.rewards_reader.proofs.amount.Amount.of_number.Goals as goal

pub of-requires-clause-lowest : goal.of-requires-clause-lowest
of-requires-clause-lowest c =
    let P : ℕ → Type 0 = λ n. IsGcd n c.args.number.now.den 1 in
    let Q : ℕ → Type 0 = λ n. IsGcd c.num.result n 1 in
    subst Q (sym c.den.ensures.value) (subst P (sym c.num.ensures.value) c.invariant.ensures.lowest)
