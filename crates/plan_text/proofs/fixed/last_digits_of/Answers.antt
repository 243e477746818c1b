use Rattle.std.proofs.Common.{◌∙◌, arith, rules}
use Rattle.plan_text.proofs.Digits.{digit_more, nothing_left}
use Rattle.plan_text.proofs.fixed.last_digits_of.Goals as goal

pub loop-place-preserved : goal.loop-place-preserved
loop-place-preserved c = record {
  written = digit_more c.loop-place.place c.loop-place.rest c.loop-place.digits (omega arith) (omega arith)
      ∙ c.loop-place.invariant.written;
  within = omega arith;
  size = search rules;
}

pub returns : goal.returns
returns c = nothing_left c.loop-place.place c.loop-place.rest c.loop-place.digits _
    (omega arith) c.loop-place.invariant.written
