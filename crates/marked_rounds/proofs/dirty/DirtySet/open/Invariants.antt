use Rattle.std.proofs.Common.{◌≡◌, ℕ, ◌<◌, length}
use Rattle.std.specs.Prelude.{slice_index}
use Rattle.game_model.specs.Rounded.{opening}
use Rattle.marked_rounds.proofs.dirty.DirtySet.open.Given as goal

abbrev pub invariant-loop-state : goal.invariant-loop-state
invariant-loop-state l = record {
  many : length l.read.items ≡ l.state;
  each : (s : ℕ) → s < l.state → slice_index l.read.items s ≡ opening l.question s;
}
