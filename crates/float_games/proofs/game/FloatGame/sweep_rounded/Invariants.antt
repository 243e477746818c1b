use Rattle.std.proofs.Common.{◌≡◌, ◌≤◌}
use Rattle.float_games.proofs.game.FloatGame.sweep_rounded.Given as goal

abbrev pub invariant-loop-node : goal.invariant-loop-node
invariant-loop-node l = (l.changed ≤ l.node) × (l.changed ≡ 0 → l.values ≡ l.initial.values)
