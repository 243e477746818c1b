use Rattle.game_model.proofs.Choices.{AreChoicesOf-choices_of}
use Rattle.game_laws.proofs.High.{IsHigh-up_step}
use Rattle.game_laws.proofs.laws.values.inductive_tables_are_high.Goals as goal

pub returns : goal.returns
returns c = λ q table h inductive. IsHigh-up_step q table (AreChoicesOf-choices_of q.game h.game) inductive
