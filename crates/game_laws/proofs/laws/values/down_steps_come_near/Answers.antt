use Rattle.std.proofs.Common.{arith}
use Rattle.game_model.proofs.Choices.{AreChoicesOf-choices_of}
use Rattle.game_laws.proofs.Low.{down_steps-near}
use Rattle.game_laws.proofs.laws.values.down_steps_come_near.Goals as goal

pub returns : goal.returns
returns c = λ q h r s. omega (arith, down_steps-near q (AreChoicesOf-choices_of q.game h.game) r s)
