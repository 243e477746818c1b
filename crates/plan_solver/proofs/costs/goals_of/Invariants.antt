use Rattle.std.proofs.Common.{◌≡◌, length}
use Rattle.plan_solver.proofs.costs.goals_of.Given as goal

abbrev pub invariant-loop-state : goal.invariant-loop-state
invariant-loop-state l = length l.list.items ≡ l.state
