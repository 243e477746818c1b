use Rattle.std.specs.Float.{◌≤ᶠ◌, float_zero}
use Rattle.local_values.proofs.vectors.greatest.Given as goal

abbrev pub invariant-loop-x : goal.invariant-loop-x
invariant-loop-x l = float_zero ≤ᶠ l.most
