use Rattle.std.proofs.Common.{◌<◌, length, arith}
use Rattle.bounded_rounds.proofs.Parts.{IsStepped-more}
use Rattle.bounded_rounds.proofs.part.step_stretch.Goals as goal

pub loop-place-preserved : goal.loop-place-preserved
loop-place-preserved g c =
    let there : c.loop-place.place < length c.loop-place.next = omega (arith, c.loop-place.auto.next) in
    let step = c.step_state-new in
    IsStepped-more c.args.tables.question.now c.args.tables.table.now c.args.first c.loop-place.place c.loop-place.next
    c.loop-place.changed step.result.1 step.result.0 there
    c.loop-place.invariant step.ensures.down step.ensures.up step.ensures.units step.ensures.same
