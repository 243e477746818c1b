use Rattle.std.proofs.Common.{◌-◌, ◌≤◌, length}
use Rattle.upper_guess.specs.Parts.{IsFilled}
use Rattle.upper_guess.proofs.part.fill_part.Given as goal

abbrev pub invariant-loop-from : goal.invariant-loop-from
invariant-loop-from l = record {
  inside : l.from ≤ length l.part;
  filled : IsFilled l.question l.table l.first l.from l.part;
}

abbrev pub decreases-loop-from : goal.decreases-loop-from
decreases-loop-from l = length l.part - l.from
