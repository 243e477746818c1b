use Rattle.std.specs.Prelude.{slice_index, slice_set}
use Rattle.game_model.specs.Rounded.{down_step}
use Rattle.game_model.proofs.Choices.{AreChoicesOf-choices_of}
use Rattle.game_laws.proofs.Low.{IsLow-raised, raised-entry}
use Rattle.game_laws.proofs.tables.stays_low_when_raised.Goals as goal

pub returns : goal.returns
returns c = IsLow-raised _ (slice_index c.args.table.now)
    (slice_index (slice_set c.args.table.now c.args.state c.args.value))
    (AreChoicesOf-choices_of _ c.invariant.ensures.game) c.requires.low
    (λ s inside. raised-entry c.args.table.now c.args.state c.args.value
    (down_step c.args.question.now (slice_index c.args.table.now)) c.requires.raised s)
