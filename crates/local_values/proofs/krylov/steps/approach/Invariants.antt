use Rattle.std.proofs.Common.{◌≡◌, vec_len}
use Rattle.std.specs.Float.{◌≤ᶠ◌, float_zero}
use Rattle.float_games.specs.Nodes.{nodes_in}
use Rattle.local_values.proofs.krylov.steps.approach.Given as goal

abbrev pub invariant-loop-count : goal.invariant-loop-count
invariant-loop-count l = record {
  work : l.work.nodes ≡ nodes_in l.chain;
  best : vec_len l.best ≡ nodes_in l.chain;
  least : float_zero ≤ᶠ l.least;
}
