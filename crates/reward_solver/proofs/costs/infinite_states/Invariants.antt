use Rattle.std.proofs.Common.{◌≡◌, length}
use Rattle.reward_solver.proofs.costs.infinite_states.Given as goal

abbrev pub invariant-loop-state : goal.invariant-loop-state
invariant-loop-state l = length l.list.items ≡ l.state
