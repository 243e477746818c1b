use Rattle.reward_refusals.proofs.OneLine.{reward_refusal-one}
use Rattle.reward_refusals.proofs.laws.reward_refusals_have_one_reading.Goals as goal

pub returns : goal.returns
returns c = reward_refusal-one
