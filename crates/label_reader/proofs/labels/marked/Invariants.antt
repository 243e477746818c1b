use Rattle.std.proofs.Common.{◌≡◌, ◌++◌, drop}
use Rattle.label_lines.specs.Labels.{marked_from}
use Rattle.label_reader.proofs.labels.marked.Given as goal

abbrev pub invariant-loop-state : goal.invariant-loop-state
invariant-loop-state l = l.states.items ++ marked_from l.state (drop l.state l.marks) ≡ marked_from 0 l.marks
