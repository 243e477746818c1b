use Rattle.std.proofs.Common.{◌≡◌, ◌-◌, ◌≤◌, length, false}
use Rattle.std.specs.List.{AllWithin}
use Rattle.round_workers.proofs.marks.marked_stretch.Given as goal

abbrev pub invariant-loop-place : goal.invariant-loop-place
invariant-loop-place l = record {
  order : l.from ≤ l.place;
  within : l.place ≤ length l.marks;
  none : AllWithin (λ m. m ≡ false) l.marks l.from l.place;
}

abbrev pub decreases-loop-place : goal.decreases-loop-place
decreases-loop-place l = length l.marks - l.place
