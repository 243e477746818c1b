use Rattle.reward_check.proofs.Causes.{reward_fault-one}
use Rattle.reward_check.proofs.laws.reward_faults_are_one.Goals as goal

pub returns : goal.returns
returns c = reward_fault-one
