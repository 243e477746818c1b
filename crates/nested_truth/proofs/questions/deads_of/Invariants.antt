use Rattle.std.proofs.Common.{◌≡◌, not, ◌&&◌, false, get_or}
use Rattle.formula_sets.specs.Posing.{at_states}
use Rattle.nested_truth.proofs.questions.deads_of.Given as goal

abbrev pub invariant-loop-place : goal.invariant-loop-place
invariant-loop-place l =
    l.marks.items ≡ at_states (λ s. not (get_or l.right s false) && not (get_or l.left s false)) l.place
