use Rattle.std.proofs.Common.{◌≡◌, map, take}
use Rattle.reward_check.specs.Certificates.{said}
use Rattle.reward_reports.specs.Printed.{reward_line_of}
use Rattle.reward_reports.proofs.lines.lines_of.Given as goal

abbrev pub invariant-loop-state : goal.invariant-loop-state
invariant-loop-state l =
    l.lines.items ≡ map (reward_line_of l.bound l.how l.places (said l.tables)) (take l.state-index l.listed)
