use Rattle.std.proofs.Common.{◌∙◌, Bool, List, length, false, get_or, if◌then◌else◌, ap}
use Rattle.std.proofs.lemmas.Result.{IfOk-weaker}
use Rattle.game_model.specs.Limits.{unit}
use Rattle.formula_reader.specs.Formula.{tree_of}
use Rattle.formula_sets.specs.Posing.{at_states}
use Rattle.formula_sets.proofs.Marked.{opened}
use Rattle.formula_sets.proofs.next.opening_of.Goals as goal

pub returns : goal.returns
returns c =
    IfOk-weaker c.units_of.result _ _ (λ table is. opened c.args.labels.now
    (tree_of c.args.formula.now) c.args.states c.in_ok-marks.marks.items table.items c.in_ok-marks.ensures
    (is ∙ ap (λ (xs : List Bool). at_states (λ s. if get_or xs s false then unit else 0) (length xs))
    c.deref.ensures.value)) c.units_of.ensures
