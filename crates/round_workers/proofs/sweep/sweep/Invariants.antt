use Rattle.std.proofs.Common.{◌-◌, ◌≤◌}
use Rattle.round_workers.specs.Share.{IsSwept}
use Rattle.round_workers.proofs.sweep.sweep.Given as goal

abbrev pub invariant-loop-state : goal.invariant-loop-state
invariant-loop-state g l = record {
  from : l.from ≤ l.state;
  upto : l.state ≤ l.to;
  swept : IsSwept g.P.Posing.posed l.task.marks.now 1 l.from l.state l.fn.pass.seat l.pass.seat l.raises;
}

abbrev pub decreases-loop-state : goal.decreases-loop-state
decreases-loop-state g l = l.to - l.state
