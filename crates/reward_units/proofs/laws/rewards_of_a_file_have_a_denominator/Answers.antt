use Rattle.reward_units.proofs.Files.{file-denominator}
use Rattle.reward_units.proofs.laws.rewards_of_a_file_have_a_denominator.Goals as goal

pub returns : goal.returns
returns c = file-denominator
