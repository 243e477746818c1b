use Rattle.game_model.proofs.Choices.{AreChoicesOf-choices_of}
use Rattle.game_laws.proofs.Low.{IsLow-raised}
use Rattle.game_laws.proofs.laws.low.raised_tables_stay_low.Goals as goal

pub returns : goal.returns
returns c = λ q table next h low raised. IsLow-raised q table next (AreChoicesOf-choices_of q.game h.game) low raised
