use Rattle.std.proofs.Common.{drop}
use Rattle.game_model.specs.Rising.{RiseFrom}
use Rattle.distributions.proofs.gather.is_gathered.Given as goal

abbrev pub invariant-loop-edge : goal.invariant-loop-edge
invariant-loop-edge l = RiseFrom l.least (drop l.edge-index l.edges) → RiseFrom 0 l.edges
