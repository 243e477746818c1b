use Rattle.std.proofs.Common.{◌∙◌, ap, sym}
use Rattle.game_model.specs.Query.{Query, states}
use Rattle.formula_reader.specs.Formula.{tree_of}
use Rattle.formula_sets.proofs.AskingNext.{opening-table}
use Rattle.formula_sets.proofs.next.pose_next.Goals as goal

pub returns-clause-opening : goal.returns-clause-opening
returns-clause-opening c =
    let table = opening-table c.args.labels.now
    (tree_of c.args.formula.now) c.states.result c.in-Ok-opening_of.opening.items c.in-Ok-opening_of.ensures in
    (table.0 ∙ c.states.ensures ∙ sym (ap (λ (q : Query). states q) c.in-Ok.ensures), table.1)
