use Rattle.std.specs.Float.{◌≤ᶠ◌, float_zero}
use Rattle.local_values.proofs.krylov.updates.advance.Given as goal

abbrev pub invariant-loop-node : goal.invariant-loop-node
invariant-loop-node l = float_zero ≤ᶠ l.left.greatest
