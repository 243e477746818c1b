use Rattle.game_model.proofs.Choices.{AreChoicesOf-choices_of}
use Rattle.game_laws.proofs.Low.{down_steps-below}
use Rattle.game_laws.proofs.laws.values.down_steps_are_below_values.Goals as goal

pub returns : goal.returns
returns c = λ q r s h. down_steps-below q (AreChoicesOf-choices_of q.game h.game) r s
