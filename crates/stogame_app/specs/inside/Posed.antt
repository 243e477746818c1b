-- This is what a report of `check` or of `solve` needs of the problem that was posed.
use Rattle.std.specs.Prelude.{◌≡◌}
use Rattle.formula_reader.specs.Formula.{Tree, tree_of}
use Rattle.inputs.specs.declared.problem.Problem.{Problem}
use Rattle.inputs.specs.declared.problem.Problem.TheVariants.{Reach, Within, Next, Nested}
use Rattle.reports.specs.Nested.{IsAnswerable}
use Rattle.reports.specs.Sweeps.{IsOpening}

-- The problem can be reported on. With `X` the table is an opening table of one step. With formulas inside, what was
-- loaded poses the problem and has this formula.
abbrev pub IsReportable : Problem → Tree → Type 0
IsReportable (Reach posed dual) f = Unit {0}
IsReportable (Within posed steps) f = Unit {0}
IsReportable (Next posed) f = IsOpening posed.question posed.opening.items
IsReportable (Nested loaded initial) f = IsAnswerable loaded.now initial.items × (tree_of loaded.now.formula ≡ f)
