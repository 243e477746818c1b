use Rattle.std.specs.Prelude.{slice_index}
use Rattle.game_model.specs.Rounded.{up_value}
use Rattle.fixed_bellman.proofs.Optima.{least-found, up_value-units}
use Rattle.fixed_bellman.proofs.up.least_up.Goals as goal

pub returns-clause-value : goal.returns-clause-value
returns-clause-value c = least-found c.args.question.now c.args.state c.loop-choice.choice c.choices-choice-end.result
    c.loop-choice.best c.row-row.result (up_value (slice_index c.args.table.now)) c.invariant.ensures c.requires.state
    c.row-row.ensures c.choices-choice-end.ensures c.loop-choice-test.false
    (λ m fine. up_value-units m c.args.table.now fine c.requires.units) c.loop-choice.invariant.value
