use Rattle.std.proofs.Common.{◌≡◌, ◌≤◌, ◌+◌, ◌++◌, drop}
use Rattle.game_model.specs.Game.{no_edge, total_of}
use Rattle.distributions.specs.inside.Merging.{merged_from}
use Rattle.distributions.proofs.gather.merge.Given as goal

abbrev pub invariant-loop-edge : goal.invariant-loop-edge
invariant-loop-edge l = record {
  value : l.merged.items ++ merged_from l.sum (drop l.edge-index l.edges) ≡ merged_from no_edge l.edges;
  small : l.sum.weight + total_of (drop l.edge-index l.edges) ≤ total_of l.edges;
}
