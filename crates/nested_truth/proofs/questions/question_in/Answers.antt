use Rattle.std.proofs.Common.{ap, List, length, ◌∙◌}
use Rattle.game_model.specs.declared.game.Side.{Side}
use Rattle.formula_sets.proofs.Asking.{length-at_states}
use Rattle.nested_truth.proofs.questions.question_in.Goals as goal

pub build-requires-clause-sides : goal.build-requires-clause-sides
build-requires-clause-sides c =
    ap (λ (xs : List Side). length xs) c.in_ok-sides.ensures ∙ length-at_states _ _ ∙ c.states.ensures
