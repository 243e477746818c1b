use Rattle.std.proofs.Common.{false, get_or, not, ◌&&◌}
use Rattle.formula_sets.proofs.Asking.{pushed-more}
use Rattle.nested_truth.proofs.questions.deads_of.Goals as goal

pub loop-place-preserved : goal.loop-place-preserved
loop-place-preserved c =
    pushed-more (λ s. not (get_or c.args.right.now s false) && not (get_or c.args.left.now s false)) c.loop-place.place
    _ _ _ c.in_ok-push.ensures.items c.loop-place.invariant c.neither.ensures
