use Rattle.game_model.proofs.Choices.{AreChoicesOf-choices_of}
use Rattle.formula_truth.proofs.Ordered.{numerator-wider}
use Rattle.formula_truth.proofs.laws.truth.more_goals_give_no_smaller_values.Goals as goal

pub returns : goal.returns
returns c = λ q more fewer posed rises falls k s.
    numerator-wider q.game q.sides q.goals q.deads more fewer rises falls
    (AreChoicesOf-choices_of q.game posed.game) k s
