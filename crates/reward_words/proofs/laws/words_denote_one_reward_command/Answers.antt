use Rattle.reward_words.proofs.OneCommand.{one_reward_command}
use Rattle.reward_words.proofs.laws.words_denote_one_reward_command.Goals as goal

pub returns : goal.returns
returns c = one_reward_command
