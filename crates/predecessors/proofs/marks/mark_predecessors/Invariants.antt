use Rattle.std.proofs.Common.{◌≡◌, ℕ, ◌<◌, ◌⊎◌, length, slice_index_or}
use Rattle.predecessors.specs.Moves.{move, LeadsTo}
use Rattle.predecessors.specs.Marks.{IsMarked}
use Rattle.predecessors.proofs.marks.mark_predecessors.Given as goal

abbrev pub invariant-loop-step : goal.invariant-loop-step
invariant-loop-step l = record {
  many : length l.marks ≡ length l.game;
  kept : (s : ℕ) → IsMarked l.fn.marks s → IsMarked l.marks s;
  only : (s : ℕ) → IsMarked l.marks s → IsMarked l.fn.marks s ⊎ ((c : ℕ) × LeadsTo l.game s c l.state);
  marked : (k : ℕ) → k < l.step-index → IsMarked l.marks (slice_index_or l.step-items k (move 0 0)).state;
}
