use Rattle.std.proofs.Common.{◌+◌, ◌-◌, ◌≤◌, length}
use Rattle.rank_certificate.specs.inside.OfAsked.{states_in, AreRankLayersIn}
use Rattle.rank_certificate.proofs.table.all_layers.Given as goal

abbrev pub invariant-loop-begin : goal.invariant-loop-begin
invariant-loop-begin l = record {
  layers : AreRankLayersIn l.asked l.level l.begin l.layers.order.items l.layers;
  positive : 1 ≤ l.level;
  begin : l.begin ≤ length l.layers.order.items;
  level : l.level ≤ l.begin + 1;
}

abbrev pub decreases-loop-begin : goal.decreases-loop-begin
decreases-loop-begin l = states_in l.asked - l.begin
