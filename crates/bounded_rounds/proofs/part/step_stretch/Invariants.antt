use Rattle.bounded_rounds.specs.inside.Parts.{IsStepped}
use Rattle.bounded_rounds.proofs.part.step_stretch.Given as goal

abbrev pub invariant-loop-place : goal.invariant-loop-place
invariant-loop-place g l = IsStepped l.tables.question.now l.tables.table.now l.first l.place l.next l.changed
