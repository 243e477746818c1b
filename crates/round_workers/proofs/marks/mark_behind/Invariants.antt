use Rattle.std.proofs.Common.{ℕ}
use Rattle.predecessors.specs.Marks.{IsMarked}
use Rattle.round_workers.proofs.marks.mark_behind.Given as goal

abbrev pub invariant-loop-step : goal.invariant-loop-step
invariant-loop-step l = (k : ℕ) → IsMarked l.fn.marks k → IsMarked l.marks k
