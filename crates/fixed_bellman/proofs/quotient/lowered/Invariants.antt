use Rattle.std.proofs.Common.{◌≤◌}
use Rattle.game_model.specs.Limits.{unit}
use Rattle.fixed_bellman.proofs.quotient.lowered.Given as goal

abbrev pub invariant-loop-guess : goal.invariant-loop-guess
invariant-loop-guess l = l.guess ≤ unit

abbrev pub decreases-loop-guess : goal.decreases-loop-guess
decreases-loop-guess l = l.guess
