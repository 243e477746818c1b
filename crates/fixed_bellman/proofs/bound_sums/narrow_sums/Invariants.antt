use Rattle.std.proofs.Common.{take}
use Rattle.fixed_bellman.specs.Sums.{edges_of, AreSums}
use Rattle.fixed_bellman.proofs.bound_sums.narrow_sums.Given as goal

abbrev pub invariant-loop-place : goal.invariant-loop-place
invariant-loop-place l = AreSums (take l.place (edges_of l.successors l.weights)) l.table l.lower l.upper
