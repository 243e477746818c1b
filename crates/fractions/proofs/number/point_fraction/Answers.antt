use Rattle.std.proofs.Common.{◌∙◌, ap, arith}
use Rattle.text_lines.specs.Text.{value_onto}
use Rattle.fractions.proofs.Said.{point-said}
use Rattle.fractions.proofs.number.point_fraction.Goals as goal

pub returns-else-power : goal.returns-else-power
returns-else-power c =
    c.decimal-else-power.ensures
    ∙ point-said c.args.front.now c.args.back.now c.args.power.digits.now c.args.power.below _ _ _
    (omega arith) (omega arith) (omega (arith, c.digits_onto-size.ensures.value, c.from.ensures)) c.if-power.false
    (c.digits_onto-digits.ensures.value ∙ ap (λ n. value_onto n c.args.back.now) c.digits_onto.ensures.value)
    (omega (arith, c.digits_onto-size.ensures.value)) (omega arith)
