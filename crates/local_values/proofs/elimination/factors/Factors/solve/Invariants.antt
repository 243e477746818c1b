use Rattle.std.proofs.Common.{◌≡◌, ℕ, ◌<◌, get_or}
use Rattle.std.specs.Float.{float_zero}
use Rattle.local_values.specs.Rows.{LeavesNothing}
use Rattle.local_values.proofs.elimination.factors.Factors.solve.Given as goal

abbrev pub invariant-loop-row-2 : goal.invariant-loop-row-2
invariant-loop-row-2 l = (k : ℕ) → k < l.row → LeavesNothing l.self k → get_or l.sums k float_zero ≡ float_zero
