use Rattle.std.proofs.Common.{arith, ap, length}
use Rattle.predecessors.specs.Moves.{move}
use Rattle.trap_sets.proofs.Leading.{listed-move}
use Rattle.trap_sets.proofs.trim.follow_gone.Goals as goal

pub test_again-requires-clause-state : goal.test_again-requires-clause-state
test_again-requires-clause-state c =
    (listed-move c.args.mdp.now c.of_state-step-items.result.now c.args.member c.loop-step.step-index (move 0 0)
    (omega (arith, c.if-member-states.false, c.states.ensures, ap length c.game.ensures)) c.of_state-step-items.ensures
    c.loop-step-test.true).state
