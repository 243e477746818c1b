use Rattle.reward_reports.proofs.Open.{left-open}
use Rattle.reward_reports.proofs.laws.undecided_rewards_are_left_open.Goals as goal

pub returns : goal.returns
returns c = left-open
