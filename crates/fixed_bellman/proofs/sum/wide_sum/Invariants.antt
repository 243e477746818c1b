use Rattle.std.proofs.Common.{take}
use Rattle.game_model.specs.Game.{choice_among}
use Rattle.fixed_bellman.specs.Sums.{IsSumBetween}
use Rattle.fixed_bellman.proofs.sum.wide_sum.Given as goal

abbrev pub invariant-loop-place : goal.invariant-loop-place
invariant-loop-place g l = record {
  onward : g.V.Values.onward l.values l.fn.pass l.pass;
  sum : IsSumBetween (take l.place (choice_among l.row l.choice).edges) (g.V.Values.seen l.values l.fn.pass)
      (g.V.Values.seen l.values l.pass) l.sum;
}
