use Rattle.std.proofs.Common.{drop}
use Rattle.distributions.specs.inside.Merging.{StandFrom}
use Rattle.distributions.proofs.gather.is_ordered.Given as goal

abbrev pub invariant-loop-edge : goal.invariant-loop-edge
invariant-loop-edge l = StandFrom l.least (drop l.edge-index l.edges) → StandFrom 0 l.edges
