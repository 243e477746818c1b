-- Contracts see this of a posed question.
use Rattle.formula_sets.specs.declared.question.Posed.{Posed}
use Rattle.formula_sets.specs.declared.next.PosedNext.{PosedNext}
use Rattle.formula_sets.specs.Posing.{Posing, NextPosing}

-- A contract sees the question and its initial states.
abbrev pub posing_of : Posed → Posing
posing_of p = record { question = p.question; initial = p.initial.items }

-- A contract sees the question of one step, the table from which it is taken, and its initial states.
abbrev pub next_posing_of : PosedNext → NextPosing
next_posing_of p = record { question = p.question; opening = p.opening.items; initial = p.initial.items }
