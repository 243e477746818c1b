use Rattle.std.specs.Prelude.{slice_index}
use Rattle.game_model.proofs.Choices.{AreChoicesOf-choices_of}
use Rattle.game_laws.proofs.Steps.{down_steps-settled}
use Rattle.game_laws.proofs.tables.settled_is_above_down_steps.Goals as goal

pub returns : goal.returns
returns c = down_steps-settled c.args.question.now (slice_index c.args.table.now)
    (AreChoicesOf-choices_of _ c.invariant.ensures.game) c.requires.opens c.requires.settled
