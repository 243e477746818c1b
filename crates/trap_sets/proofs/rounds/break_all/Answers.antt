use Rattle.std.proofs.Common.{sym, ◌∙◌}
use Rattle.trap_sets.proofs.Roots.{others-fall}
use Rattle.trap_sets.proofs.rounds.break_all.Goals as goal

pub loop-breaks-smaller : goal.loop-breaks-smaller
loop-breaks-smaller c = others-fall c.loop-breaks.part c.break_up.new.part c.loop-breaks.breaks
    c.in_ok-breaks.breaks c.loop-breaks-test.true
    (c.in_ok-breaks.ensures.keeps.many ∙ sym c.loop-breaks.invariant.keeps.many) c.in_ok-breaks.ensures.more
