use Rattle.upper_guess.specs.Parts.{IsFilled}
use Rattle.upper_guess.proofs.part.fill_stretch.Given as goal

abbrev pub invariant-loop-place : goal.invariant-loop-place
invariant-loop-place l = IsFilled l.question l.table l.first l.place l.part
