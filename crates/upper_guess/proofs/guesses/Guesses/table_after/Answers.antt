use Rattle.std.specs.Prelude.{slice_index}
use Rattle.game_model.specs.Rounded.{up_step}
use Rattle.game_model.specs.Tables.{IsTable}
use Rattle.upper_guess.proofs.Lists.{IsTable-next}
use Rattle.upper_guess.proofs.guesses.Guesses.table_after.Goals as goal

pub loop-step-preserved : goal.loop-step-preserved
loop-step-preserved t c =
    let g = c.args.self.now in
    let table = c.loop-step.table.items in
    let step : IsTable g.question.now (up_step g.question.now (slice_index table)) c.in_ok-table.table.items =
    rw c.deref.ensures.value at c.in_ok-table.ensures in
    IsTable-next g.question.now _ _ _ c.loop-step._step table c.in_ok-table.table.items g.posed
    c.loop-step.invariant step
