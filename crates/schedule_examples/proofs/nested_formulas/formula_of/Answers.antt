use Rattle.formula_reader.specs.Formula.{tree_of}
use Rattle.schedule_examples.proofs.nested_formulas.formula_of.Goals as goal

pub returns-in-Ok-clause-spellable : goal.returns-in-Ok-clause-spellable
returns-in-Ok-clause-spellable c =
    let tree = tree_of c.in-Ok.formula in
    c.formulas_of_texts_are_spellable.ensures c.args.text.now tree
    ((c.formulas_are_those_that_a_text_denotes.ensures c.args.text.now tree).0 c.in-Ok.ensures)

pub returns-in-Ok-clause-few : goal.returns-in-Ok-clause-few
returns-in-Ok-clause-few c =
    let tree = tree_of c.in-Ok.formula in
    c.formulas_inside_are_few.ensures c.args.text.now tree
    ((c.formulas_are_those_that_a_text_denotes.ensures c.args.text.now tree).0 c.in-Ok.ensures)
