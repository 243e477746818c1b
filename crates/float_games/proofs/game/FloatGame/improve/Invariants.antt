use Rattle.std.proofs.Common.{◌≡◌, ◌≤◌}
use Rattle.float_games.proofs.game.FloatGame.improve.Given as goal

abbrev pub invariant-loop-node : goal.invariant-loop-node
invariant-loop-node l = (l.exchanged ≤ l.node) × (l.exchanged ≡ 0 → l.policy ≡ l.initial.policy)
