use Rattle.std.proofs.Common.{◌≡◌, vec_len}
use Rattle.float_games.proofs.game.FloatGame.first_policy.Given as goal

abbrev pub invariant-loop-node : goal.invariant-loop-node
invariant-loop-node l = vec_len l.policy ≡ l.node
