use Rattle.std.proofs.Common.{◌≡◌, ◌++◌, drop}
use Rattle.verdicts.specs.Report.{report}
use Rattle.verdicts.proofs.report.report_text.Given as goal

abbrev pub invariant-loop-line : goal.invariant-loop-line
invariant-loop-line l = l.text.items ++ report (drop l.line-index l.lines) ≡ report l.lines
