use Rattle.game_model.proofs.Choices.{AreChoicesOf-choices_of}
use Rattle.game_laws.proofs.Steps.{down_steps-settled}
use Rattle.game_laws.proofs.laws.steps.settled_tables_are_above_down_steps.Goals as goal

pub returns : goal.returns
returns c = λ q table h opens settled r.
    down_steps-settled q table (AreChoicesOf-choices_of q.game h.game) opens settled r
