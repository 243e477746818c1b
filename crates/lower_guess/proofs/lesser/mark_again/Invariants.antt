use Rattle.std.proofs.Common.{◌≡◌, ℕ, ◌<◌, length}
use Rattle.std.specs.Prelude.{slice_index}
use Rattle.predecessors.specs.Moves.{LeadsTo}
use Rattle.predecessors.specs.Marks.{IsMarked}
use Rattle.lower_guess.proofs.lesser.mark_again.Given as goal

abbrev pub invariant-loop-state : goal.invariant-loop-state
invariant-loop-state l = record {
  many : length l.marks ≡ length l.game;
  marked : (s c t : ℕ) → t < l.state → slice_index l.next t < slice_index l.table t → LeadsTo l.game s c t
      → IsMarked l.marks s;
}
