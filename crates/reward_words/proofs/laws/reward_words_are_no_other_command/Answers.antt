use Rattle.reward_words.proofs.OtherCommand.{no_other_command}
use Rattle.reward_words.proofs.laws.reward_words_are_no_other_command.Goals as goal

pub returns : goal.returns
returns c = no_other_command
