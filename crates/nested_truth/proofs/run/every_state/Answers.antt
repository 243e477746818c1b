use Rattle.std.proofs.Common.{◌∙◌, ◌++◌, ◌∷◌, [], ℕ, List, ap, sym}
use Rattle.formula_truth.proofs.Numbers.{range_with_len-more}
use Rattle.nested_truth.proofs.run.every_state.Goals as goal

pub loop-state-preserved : goal.loop-state-preserved
loop-state-preserved c =
    c.in_ok-push.ensures.items ∙ ap (λ (xs : List ℕ). xs ++ c.loop-state.state ∷ []) c.loop-state.invariant
    ∙ sym (range_with_len-more c.loop-state.state)
