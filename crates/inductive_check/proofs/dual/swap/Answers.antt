use Rattle.std.proofs.Common.{arith, ap, length}
use Rattle.inductive_check.proofs.Apart.{apart-taken}
use Rattle.inductive_check.proofs.dual.swap.Goals as goal

pub build-requires-clause-apart : goal.build-requires-clause-apart
build-requires-clause-apart c = apart-taken c.args.question.now c.args.zero.now c.loop-state.goals.items
    c.loop-state.deads.items c.loop-state.state c.requires
    (omega (arith, ap length c.game.ensures)) (omega (arith, ap length c.game.ensures)) c.loop-state.invariant.goals
    c.loop-state.invariant.deads
