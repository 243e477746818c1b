use Rattle.formula_reader.specs.Formula.{tree_of}
use Rattle.reward_inputs.specs.Seen.{model_in, question_of}
use Rattle.reward_inputs.proofs.Ends.{question_quiet}
use Rattle.reward_inputs.proofs.Posing.{plain_fails, wrong_kind}
use Rattle.reward_inputs.proofs.problem.refuse_probability.Goals as goal

pub returns-in-Ok-clause-says : goal.returns-in-Ok-clause-says
returns-in-Ok-clause-says c = λ lines.
    wrong_kind (model_in c.args.loaded.now) (tree_of c.args.formula.now) c.requires.form _ c.in-Ok.ensures.said

pub returns-clause-says : goal.returns-clause-says
returns-clause-says c = λ lines.
    rw (c.from.ensures) (plain_fails (model_in c.args.loaded.now) (tree_of c.args.formula.now) c.requires.form
    (question_of lines) c.in-Err.fault c.in-Err.ensures.said)

pub returns-clause-nothing : goal.returns-clause-nothing
returns-clause-nothing c = rw (c.from.ensures) (question_quiet c.in-Err.fault)
