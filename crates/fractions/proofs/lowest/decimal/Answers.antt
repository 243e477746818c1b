use Rattle.std.proofs.Common.{◌≡◌, ◌*◌, ◌^◌, ◌∙◌, sym, ap, rules, arith, Ok}
use Rattle.fractions.specs.Number.{in_range}
use Rattle.fractions.proofs.Powers.{pow-pos}
use Rattle.fractions.proofs.Terms.{lowest-zero, lowest-shifted, lowest-whole, large-said, said-above_zero}
use Rattle.fractions.proofs.lowest.decimal.Goals as goal

pub returns-then-up-down : goal.returns-then-up-down
returns-then-up-down c =
    c.over_tens.ensures
    ∙ sym (said-above_zero (record { num = c.args.digits * 10 ^ c.args.up; den = 10 ^ c.args.down })
    (pow-pos 10 c.args.down (omega arith))
    ∙ ap in_range (lowest-shifted c.args.digits c.args.up c.args.down (search rules)))

pub returns-then-digits-eq0 : goal.returns-then-digits-eq0
returns-then-digits-eq0 c =
    let none : c.args.digits ≡ 0 = search rules in
    ap (λ f. Ok f) c.of.ensures
    ∙ sym (said-above_zero (record { num = c.args.digits * 10 ^ c.args.up; den = 10 ^ c.args.down })
    (pow-pos 10 c.args.down (omega arith))
    ∙ ap in_range (lowest-zero (c.args.digits * 10 ^ c.args.up) (10 ^ c.args.down)
    (omega (arith, ap (λ n. n * 10 ^ c.args.up) none)) (pow-pos 10 c.args.down (omega arith))))

pub returns : goal.returns
returns c =
    sym (said-above_zero (record { num = c.args.digits * 10 ^ c.args.up; den = 10 ^ c.args.down })
    (pow-pos 10 c.args.down (omega arith))
    ∙ ap in_range (lowest-whole c.args.digits c.args.up c.args.down (omega arith))
    ∙ large-said c.args.digits c.args.up c.args.down (omega arith) (omega arith))
