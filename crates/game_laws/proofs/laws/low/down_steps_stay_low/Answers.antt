use Rattle.game_model.proofs.Choices.{AreChoicesOf-choices_of}
use Rattle.game_laws.proofs.Low.{IsLow-down_step}
use Rattle.game_laws.proofs.laws.low.down_steps_stay_low.Goals as goal

pub returns : goal.returns
returns c = λ q table h low. IsLow-down_step q table (AreChoicesOf-choices_of q.game h.game) low
