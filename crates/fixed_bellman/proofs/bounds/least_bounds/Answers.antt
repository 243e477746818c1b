use Rattle.std.specs.Prelude.{slice_index}
use Rattle.game_model.specs.Rounded.{down_value, up_value}
use Rattle.fixed_bellman.specs.Bounds.{lowers, uppers}
use Rattle.fixed_bellman.proofs.BoundSums.{lowers-units, uppers-units}
use Rattle.fixed_bellman.proofs.Optima.{least-found, down_value-most, up_value-units}
use Rattle.fixed_bellman.proofs.bounds.least_bounds.Goals as goal

pub returns-clause-lower : goal.returns-clause-lower
returns-clause-lower c = least-found c.args.question.now c.args.state c.loop-choice.choice c.choices-choice-end.result
    c.loop-choice.lower c.row-row.result (down_value (slice_index (lowers c.args.table.now))) c.invariant.ensures
    c.requires.state c.row-row.ensures c.choices-choice-end.ensures c.loop-choice-test.false
    (λ m fine. down_value-most m (lowers c.args.table.now) fine (lowers-units c.args.table.now c.requires.units))
    c.loop-choice.invariant.lower

pub returns-clause-upper : goal.returns-clause-upper
returns-clause-upper c = least-found c.args.question.now c.args.state c.loop-choice.choice c.choices-choice-end.result
    c.loop-choice.upper c.row-row.result (up_value (slice_index (uppers c.args.table.now))) c.invariant.ensures
    c.requires.state c.row-row.ensures c.choices-choice-end.ensures c.loop-choice-test.false
    (λ m fine. up_value-units m (uppers c.args.table.now) fine (uppers-units c.args.table.now c.requires.units))
    c.loop-choice.invariant.upper
