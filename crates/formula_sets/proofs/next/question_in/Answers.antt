use Rattle.std.proofs.Common.{◌∙◌, Bool, List, length, ap}
use Rattle.std.specs.Prelude.{false, slice_index_or}
use Rattle.game_model.specs.declared.game.Side.{Side}
use Rattle.formula_reader.specs.Formula.{tree_of}
use Rattle.formula_sets.specs.Sides.{side_of}
use Rattle.formula_sets.proofs.Asking.{length-at_states}
use Rattle.formula_sets.proofs.AskingNext.{never_marked}
use Rattle.formula_sets.proofs.next.question_in.Goals as goal

pub build-requires-clause-sides : goal.build-requires-clause-sides
build-requires-clause-sides c =
    ap (λ (xs : List Side). length xs) c.in_ok-sides.ensures
    ∙ length-at_states (side_of (tree_of c.args.formula.now).coalition c.args.formula.now.bound c.args.owners.now)
    c.states-states.result ∙ c.states-states.ensures

pub build-requires-clause-goal : goal.build-requires-clause-goal
build-requires-clause-goal c =
    ap (λ (xs : List Bool). length xs) c.in_ok-goals.ensures ∙ length-at_states (λ s. false) c.states-states.result
    ∙ c.states-states.ensures

pub build-requires-clause-dead : goal.build-requires-clause-dead
build-requires-clause-dead c =
    ap (λ (xs : List Bool). length xs) c.in_ok-deads.ensures ∙ length-at_states (λ s. false) c.states-states.result
    ∙ c.states-states.ensures

pub build-requires-clause-apart : goal.build-requires-clause-apart
build-requires-clause-apart c = λ s goal.
    ap (λ (xs : List Bool). slice_index_or xs s false) c.in_ok-deads.ensures ∙ never_marked c.states-states.result s
