use Rattle.std.proofs.Common.{rules, ap₂, codes, ◌≡◌, ◌∙◌}
use Rattle.std.proofs.lemmas.Result.{IfOk-weaker}
use Rattle.clap.specs.Words.{rule_of, with_rule}
use Rattle.reward_words.specs.Grammar.{needed_option}
use Rattle.reward_words.proofs.grammar.rewarded_command.Goals as goal

pub returns : goal.returns
returns c =
    let rewards : rule_of c.needed_option.result ≡ needed_option (codes "rewards") = search rules in
    IfOk-weaker c.arg.result _ _ (λ r h. h.shape c.needed_option.ensures.local
    ∙ ap₂ with_rule c.in_ok-asked_command.ensures rewards) c.arg.ensures
