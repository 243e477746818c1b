use Rattle.std.proofs.Common.{List, subst}
use Rattle.std.specs.Prelude.{IfOk, MatchOption}
use Rattle.std.specs.String.{string_bytes}
use Rattle.clap.specs.Words.{Text}
use Rattle.command_words.proofs.FirstWord.{first_and_rest}
use Rattle.reward_words.specs.Words.{AreRewardCommand, AreNoRewardCommand, reward_command_of}
use Rattle.reward_words.proofs.words.read_reward_words.Goals as goal

pub returns-in-len1-up : goal.returns-in-len1-up
returns-in-len1-up c =
    let whole = first_and_rest string_bytes c.args.words.now c.name-item.result c.as_str.result.now
    c.in-len1-up.len_at_least c.name-item.is c.as_str.ensures.value in
    subst (λ (words : List Text). IfOk c.read_command.result
    (λ read. MatchOption read (AreNoRewardCommand words)
    (λ command. AreRewardCommand words (reward_command_of command)))) whole c.read_command.ensures
