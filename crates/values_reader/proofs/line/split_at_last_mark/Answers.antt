use Rattle.std.proofs.Common.{◌-◌, ◌+◌, ◌∙◌, sym, arith}
use Rattle.values_reader.proofs.Marks.{split_at_mark}
use Rattle.values_reader.proofs.line.split_at_last_mark.Goals as goal

pub returns-then-mark : goal.returns-then-mark
returns-then-mark c =
    let place = c.loop-place.place in
    let at = c.loop-place.invariant in
    split_at_mark c.args.line.now c.split_at.result.0.now c.split_at-then-mark.result.1.now (place - 1) place
    (place - 1 + 1) (omega (arith, c.loop-place-test.true)) (omega arith) at.within
    (sym c.mark.ensures ∙ c.if-mark.true) at.behind c.split_at.ensures.front c.split_at-then-mark.ensures.back
