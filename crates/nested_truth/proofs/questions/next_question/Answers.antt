use Rattle.std.proofs.Common.{◌∙◌, Bool, List, false, get_or, length, ap}
use Rattle.formula_sets.proofs.AskingNext.{never_marked}
use Rattle.nested_truth.proofs.Tables.{filled-length}
use Rattle.nested_truth.proofs.questions.next_question.Goals as goal

pub question_in-requires-clause-goals : goal.question_in-requires-clause-goals
question_in-requires-clause-goals c = ap (λ (xs : List Bool). length xs) c.deref.ensures.value
    ∙ filled-length (λ s. false) c.states-states.result c.in_ok-goals.goals.items c.in_ok-goals.ensures
    ∙ c.states-states.ensures

pub question_in-requires-clause-deads : goal.question_in-requires-clause-deads
question_in-requires-clause-deads c =
    filled-length (λ s. false) c.states-states.result c.in_ok-deads.deads.items c.in_ok-deads.ensures
    ∙ c.states-states.ensures

pub question_in-requires-clause-apart : goal.question_in-requires-clause-apart
question_in-requires-clause-apart c =
    λ s goal. ap (λ (xs : List Bool). get_or xs s false) c.in_ok-deads.ensures ∙ never_marked c.states-states.result s
