use Rattle.std.proofs.Common.{◌≡◌, ◌-◌, ◌≤◌, length}
use Rattle.marked_rounds.proofs.Marking.{AreMarkedBelow}
use Rattle.marked_rounds.proofs.dirty.mark_changed.Given as goal

abbrev pub invariant-loop-state : goal.invariant-loop-state
invariant-loop-state l = record {
  within : l.state ≤ length l.game;
  changed : length l.changed ≡ length l.game;
  marks : length l.marks ≡ length l.game;
  marked : AreMarkedBelow l.game l.state l.fn.changed l.changed l.marks;
}

abbrev pub decreases-loop-state : goal.decreases-loop-state
decreases-loop-state l = length l.game - l.state
