use Rattle.reward_formula.specs.Formula.{any_of}
use Rattle.reward_inputs.proofs.Forms.{denoted_form}
use Rattle.reward_inputs.proofs.load.load_any_formula.Goals as goal

pub returns-in-Ok-clause-spelled : goal.returns-in-Ok-clause-spelled
returns-in-Ok-clause-spelled c =
    (c.formulas_are_those_that_a_text_denotes.ensures c.args.text.now (any_of c.in-Ok.formula)).0 c.in-Ok.ensures

pub returns-in-Ok-clause-form : goal.returns-in-Ok-clause-form
returns-in-Ok-clause-form c =
    denoted_form c.args.text.now (any_of c.in-Ok.formula)
    ((c.formulas_are_those_that_a_text_denotes.ensures c.args.text.now (any_of c.in-Ok.formula)).0 c.in-Ok.ensures)
