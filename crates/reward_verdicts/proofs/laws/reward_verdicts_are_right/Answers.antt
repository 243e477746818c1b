use Rattle.reward_verdicts.proofs.Right.{right}
use Rattle.reward_verdicts.proofs.laws.reward_verdicts_are_right.Goals as goal

pub returns : goal.returns
returns c = right
