use Rattle.std.proofs.Common.{take}
use Rattle.fixed_bellman.specs.Sums.{edges_of, IsSumBetween}
use Rattle.fixed_bellman.proofs.sum.middle_sum.Given as goal

abbrev pub invariant-loop-place : goal.invariant-loop-place
invariant-loop-place g l = record {
  onward : g.V.Values.onward l.values l.fn.pass l.pass;
  sum : IsSumBetween (take l.place (edges_of l.successors l.weights)) (g.V.Values.seen l.values l.fn.pass)
      (g.V.Values.seen l.values l.pass) l.sum;
}
