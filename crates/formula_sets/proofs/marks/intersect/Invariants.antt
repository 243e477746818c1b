use Rattle.std.proofs.Common.{◌&&◌, false, get_or}
use Rattle.formula_sets.proofs.Marked.{AreWritten}
use Rattle.formula_sets.proofs.marks.intersect.Given as goal

abbrev pub invariant-loop-place : goal.invariant-loop-place
invariant-loop-place l =
    AreWritten (λ k. get_or l.initial.marks k false && get_or l.others k false) l.place l.initial.marks l.marks
