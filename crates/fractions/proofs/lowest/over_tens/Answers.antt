use Rattle.std.proofs.Common.{◌∙◌, ◌^◌, ℕ, sym, ap, subst, arith}
use Prim.Native.Nat.{◌∣◌}
use Rattle.fractions.specs.Fraction.{Fraction}
use Rattle.fractions.specs.Number.{fraction_said}
use Rattle.fractions.proofs.Powers.{pow-pos}
use Rattle.fractions.proofs.Terms.{said-above_zero}
use Rattle.fractions.proofs.Factors.{pow_divides}
use Rattle.fractions.proofs.lowest.over_tens.Goals as goal

pub new-requires : goal.new-requires
new-requires c =
    let P : ℕ → Type 0 = λ n. n ∣ 10 ^ 19 in
    subst P (sym c.pow.ensures) (pow_divides 10 c.args.tens 19 (omega arith))

pub returns-then-tens-le-NARROW_PLACES : goal.returns-then-tens-le-NARROW_PLACES
returns-then-tens-le-NARROW_PLACES c =
    let fraction : ℕ → ℕ → Fraction = λ n d. record { num = n; den = d } in
    c.fraction.ensures
    ∙ ap (λ n. fraction_said (fraction n c.new.result.den)) c.new.ensures.num
    ∙ ap (λ d. fraction_said (fraction c.args.digits d)) (c.new.ensures.den ∙ c.pow.ensures)
    ∙ said-above_zero (fraction c.args.digits (10 ^ c.args.tens)) (pow-pos 10 c.args.tens (omega arith))
