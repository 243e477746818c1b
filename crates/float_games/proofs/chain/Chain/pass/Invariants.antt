use Rattle.std.specs.Float.{◌≤ᶠ◌, float_zero}
use Rattle.float_games.proofs.chain.Chain.pass.Given as goal

abbrev pub invariant-loop-node : goal.invariant-loop-node
invariant-loop-node l = float_zero ≤ᶠ l.change
