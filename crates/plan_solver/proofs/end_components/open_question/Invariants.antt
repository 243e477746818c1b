use Rattle.std.proofs.Common.{◌≡◌, length}
use Rattle.plan_solver.proofs.end_components.open_question.Given as goal

abbrev pub invariant-loop-state : goal.invariant-loop-state
invariant-loop-state l = record { sides : length l.sides.items ≡ l.state; closed : length l.closed.items ≡ l.state }
