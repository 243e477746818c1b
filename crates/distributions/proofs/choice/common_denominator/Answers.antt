use Rattle.std.proofs.Common.{◌≡◌, ◌∙◌, ◌≤◌, ℕ, sym, ap, subst}
use Rattle.fractions.specs.Divisors.{lcm}
use Rattle.distributions.proofs.Multiples.{denominator_step, lcm_some}
use Rattle.distributions.proofs.choice.common_denominator.Goals as goal

pub loop-part-preserved : goal.loop-part-preserved
loop-part-preserved c =
    let multiple : c.in-Some.multiple ≡ lcm c.loop-part.common c.part-item.result.share.den =
    c.in-Some.ensures.value ∙ ap (λ n. lcm c.loop-part.common n) c.den-den.ensures.value in
    record {
      value = denominator_step c.args.parts.now c.loop-part.part-index c.loop-part.common c.in-Some.multiple
          c.part-item.result c.loop-part-test.true c.part-item.is multiple c.in-Some.ensures.fine
          ∙ c.loop-part.invariant.value;
      positive =
          let P : ℕ → Type 0 = λ n. 1 ≤ n in
          subst P (sym c.in-Some.ensures.value)
          (lcm_some c.loop-part.common c.den-den.result c.loop-part.invariant.positive c.den-den.ensures.positive);
      fine = c.in-Some.ensures.fine;
    }
