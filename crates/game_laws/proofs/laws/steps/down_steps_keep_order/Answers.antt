use Rattle.game_model.proofs.Choices.{AreChoicesOf-choices_of}
use Rattle.game_laws.proofs.Steps.{down_step-le}
use Rattle.game_laws.proofs.laws.steps.down_steps_keep_order.Goals as goal

pub returns : goal.returns
returns c = λ q table other h below s inside. down_step-le q table other (AreChoicesOf-choices_of q.game h.game) below s
