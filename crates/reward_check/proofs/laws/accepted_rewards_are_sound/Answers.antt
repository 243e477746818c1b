use Rattle.reward_check.proofs.Sound.{sound}
use Rattle.reward_check.proofs.laws.accepted_rewards_are_sound.Goals as goal

pub returns : goal.returns
returns c = sound
