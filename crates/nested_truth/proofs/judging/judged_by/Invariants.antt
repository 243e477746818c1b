use Rattle.nested_truth.specs.Seen.{band_in}
use Rattle.formula_truth.proofs.Counted.{IsJudgedBelow}
use Rattle.nested_truth.proofs.judging.judged_by.Given as goal

abbrev pub invariant-loop-state : goal.invariant-loop-state
invariant-loop-state l = IsJudgedBelow l.bound (band_in l.bounds) l.state l.sure.items l.possible.items l.undecided
