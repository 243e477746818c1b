use Rattle.game_model.proofs.Choices.{AreChoicesOf-choices_of}
use Rattle.game_model.proofs.Marked.{marked-goal}
use Rattle.game_laws.proofs.Near.{swapped-value-near}
use Rattle.game_laws.proofs.laws.values.dual_bounds_come_near.Goals as goal

pub returns : goal.returns
returns c = λ q lost h zero_set r s upper inside within. swapped-value-near q lost
    (AreChoicesOf-choices_of q.game h.game) h.sides (marked-goal q lost zero_set) r s upper inside within
