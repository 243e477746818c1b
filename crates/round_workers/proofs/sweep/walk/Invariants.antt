use Rattle.round_workers.specs.Share.{IsSwept}
use Rattle.round_workers.proofs.sweep.walk.Given as goal

abbrev pub invariant-loop-state : goal.invariant-loop-state
invariant-loop-state g l =
    IsSwept g.P.Posing.posed l.task.marks.now 1 l.from l.state l.fn.pass.seat l.pass.seat l.raises
