use Rattle.reward_units.proofs.Denominator.{common-denominator}
use Rattle.reward_units.proofs.laws.exact_rewards_have_a_denominator.Goals as goal

pub returns : goal.returns
returns c = common-denominator
