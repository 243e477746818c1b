use Rattle.std.proofs.Common.{◌∙◌, ◌≤◌, ◌+◌, ◌-◌, ◌*◌, ◌^◌, ℕ, ap, subst, sym, arith, length, drop}
use Rattle.text_lines.specs.Text.{value_onto}
use Rattle.numerals.proofs.Spelled.{digit_step, digits_next}
use Rattle.numerals.proofs.digits.digits_onto.Goals as goal

pub overflow_mul-value : goal.overflow_mul-value
overflow_mul-value c =
    let is = digits_next c.args.digits.now c.loop-b.b-index c.loop-b-test.true c.loop-b.invariant.digits in
    let step =
    digit_step c.args.digits.now c.loop-b.b-index c.loop-b.value _ c.loop-b-test.true is.0 c.loop-b.invariant.small in
    omega (arith, step.room, c.requires.small)

pub overflow_add-value : goal.overflow_add-value
overflow_add-value c =
    let is = digits_next c.args.digits.now c.loop-b.b-index c.loop-b-test.true c.loop-b.invariant.digits in
    let step =
    digit_step c.args.digits.now c.loop-b.b-index c.loop-b.value _ c.loop-b-test.true is.0 c.loop-b.invariant.small in
    omega (arith, step.room, step.digit, c.from.ensures, c.requires.small)

pub loop-b-preserved : goal.loop-b-preserved
loop-b-preserved c =
    let is = digits_next c.args.digits.now c.loop-b.b-index c.loop-b-test.true c.loop-b.invariant.digits in
    let step =
    digit_step c.args.digits.now c.loop-b.b-index c.loop-b.value _ c.loop-b-test.true is.0 c.loop-b.invariant.small in
    let P : ℕ → Type 0 = λ d. (10 * c.loop-b.value + d + 1) * 10 ^ (length c.args.digits.now - (c.loop-b.b-index + 1))
    ≤ (c.args.before + 1) * 10 ^ length c.args.digits.now in
    record {
      value =
          ap (λ d. value_onto (10 * c.loop-b.value + d) (drop (c.loop-b.b-index + 1) c.args.digits.now)) c.from.ensures
          ∙ step.value ∙ c.loop-b.invariant.value;
      digits = is.1;
      small = subst P (sym c.from.ensures) step.small;
    }
