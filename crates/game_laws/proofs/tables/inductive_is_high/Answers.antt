use Rattle.std.specs.Prelude.{slice_index}
use Rattle.game_model.proofs.Choices.{AreChoicesOf-choices_of}
use Rattle.game_laws.proofs.High.{IsHigh-up_step}
use Rattle.game_laws.proofs.tables.inductive_is_high.Goals as goal

pub returns : goal.returns
returns c = IsHigh-up_step c.args.question.now (slice_index c.args.table.now)
    (AreChoicesOf-choices_of _ c.invariant.ensures.game) c.requires
