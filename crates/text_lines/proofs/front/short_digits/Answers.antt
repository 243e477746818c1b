use Rattle.std.proofs.Common.{rules}
use Rattle.text_lines.proofs.Fronts.{no_digit, digit_read}
use Rattle.text_lines.proofs.front.short_digits.Goals as goal

pub loop-rest-init : goal.loop-rest-init
loop-rest-init c = no_digit c.args.text.now

pub loop-rest-preserved : goal.loop-rest-preserved
loop-rest-preserved c = digit_read c.args.text.now c.loop-rest.value c.loop-rest.rest.now c.from.result (search rules)
    (search rules) c.from.ensures c.loop-rest.invariant
