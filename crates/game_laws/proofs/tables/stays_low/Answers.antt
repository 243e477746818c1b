use Rattle.game_model.proofs.Choices.{AreChoicesOf-choices_of}
use Rattle.game_laws.proofs.Low.{IsLow-raised}
use Rattle.game_laws.proofs.tables.stays_low.Goals as goal

pub returns : goal.returns
returns c = IsLow-raised _ _ _ (AreChoicesOf-choices_of _ c.invariant.ensures.game) c.requires.low c.requires.raised
