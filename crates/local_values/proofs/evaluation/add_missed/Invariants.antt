use Rattle.std.proofs.Common.{ℕ, ◌<◌, get_or}
use Rattle.std.specs.Float.{float_zero}
use Rattle.float_games.specs.Units.{IsInUnits}
use Rattle.local_values.proofs.evaluation.add_missed.Given as goal

abbrev pub invariant-loop-node : goal.invariant-loop-node
invariant-loop-node l = (k : ℕ) → k < l.node → IsInUnits (get_or l.values k float_zero)
