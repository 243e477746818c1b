use Rattle.std.proofs.Common.{◌≡◌, ◌++◌, drop}
use Rattle.reward_verdicts.specs.Report.{reward_report}
use Rattle.reward_verdicts.proofs.report.reward_report_text.Given as goal

abbrev pub invariant-loop-line : goal.invariant-loop-line
invariant-loop-line l =
    l.text.items ++ reward_report l.places (drop l.line-index l.lines) ≡ reward_report l.places l.lines
