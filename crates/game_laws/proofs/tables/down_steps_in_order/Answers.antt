use Rattle.std.specs.Prelude.{slice_index}
use Rattle.game_model.proofs.Choices.{AreChoicesOf-choices_of}
use Rattle.game_laws.proofs.Steps.{down_step-le}
use Rattle.game_laws.proofs.tables.down_steps_in_order.Goals as goal

pub returns : goal.returns
returns c = λ s inside. down_step-le c.args.question.now (slice_index c.args.table.now) (slice_index c.args.other.now)
    (AreChoicesOf-choices_of _ c.invariant.ensures.game) c.requires s
