use Rattle.std.proofs.Common.{◌≡◌, ℕ, ◌<◌, length}
use Rattle.predecessors.specs.Marks.{IsMarked}
use Rattle.marked_rounds.proofs.dirty.take_marks.Given as goal

abbrev pub invariant-loop-place : goal.invariant-loop-place
invariant-loop-place l = record {
  read : l.dirty.read.items ≡ l.fn.dirty.read.items;
  marks : l.dirty.marks.items ≡ l.fn.dirty.marks.items;
  more : length l.dirty.more.items ≡ length l.fn.dirty.more.items;
  taken : (s : ℕ) → s < l.place → IsMarked l.fn.dirty.marks.items s → IsMarked l.dirty.more.items s;
}
