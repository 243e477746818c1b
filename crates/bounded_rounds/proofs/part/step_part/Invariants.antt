use Rattle.std.proofs.Common.{◌-◌, ◌≤◌, length}
use Rattle.bounded_rounds.specs.inside.Parts.{IsStepped}
use Rattle.bounded_rounds.proofs.part.step_part.Given as goal

abbrev pub invariant-loop-from : goal.invariant-loop-from
invariant-loop-from g l = record {
  inside : l.from ≤ length l.next;
  stepped : IsStepped l.tables.question.now l.tables.table.now l.first l.from l.next l.changed;
}

abbrev pub decreases-loop-from : goal.decreases-loop-from
decreases-loop-from g l = length l.next - l.from
