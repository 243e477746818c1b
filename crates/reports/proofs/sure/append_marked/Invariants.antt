use Rattle.std.proofs.Common.{◌≡◌, ◌++◌}
use Rattle.reports.proofs.SureLines.{lines_before}
use Rattle.reports.proofs.sure.append_marked.Given as goal

abbrev pub invariant-loop-state : goal.invariant-loop-state
invariant-loop-state l = l.text.items ≡ l.fn.text.items ++ lines_before l.marks l.state
