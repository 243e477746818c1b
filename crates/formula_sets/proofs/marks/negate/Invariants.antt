use Rattle.std.proofs.Common.{not, false, get_or}
use Rattle.formula_sets.proofs.Marked.{AreWritten}
use Rattle.formula_sets.proofs.marks.negate.Given as goal

abbrev pub invariant-loop-mark : goal.invariant-loop-mark
invariant-loop-mark l = AreWritten (λ k. not (get_or l.initial.marks k false)) l.mark-index l.initial.marks l.marks
