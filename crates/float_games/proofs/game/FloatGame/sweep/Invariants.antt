use Rattle.std.proofs.Common.{◌≡◌, ℕ, ◌<◌, ◌≤◌, get_or}
use Rattle.std.specs.Float.{◌≤ᶠ◌, float_zero}
use Rattle.float_games.specs.Units.{IsInUnits}
use Rattle.float_games.proofs.game.FloatGame.sweep.Given as goal

abbrev pub invariant-loop-node : goal.invariant-loop-node
invariant-loop-node l =
    ((k : ℕ) → k < l.node → IsInUnits (get_or l.values k float_zero)) ×
    (l.exchanged ≤ l.node) ×
    (l.exchanged ≡ 0 → l.policy ≡ l.initial.policy) ×
    (float_zero ≤ᶠ l.change)
