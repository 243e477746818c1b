use Rattle.formula_reader.specs.Formula.{tree_of}
use Rattle.inputs.proofs.model.load_formula.Goals as goal

pub returns-in-Ok-clause-spelled : goal.returns-in-Ok-clause-spelled
returns-in-Ok-clause-spelled c =
    (c.formulas_are_those_that_a_text_denotes.ensures c.args.text.now (tree_of c.in-Ok.formula)).0 c.in-Ok.ensures

pub returns-in-Ok-clause-share : goal.returns-in-Ok-clause-share
returns-in-Ok-clause-share c =
    let tree = tree_of c.in-Ok.formula in
    c.thresholds_are_at_most_one.ensures c.args.text.now tree
    ((c.formulas_are_those_that_a_text_denotes.ensures c.args.text.now tree).0 c.in-Ok.ensures)
