use Rattle.std.proofs.Common.{rules, ap₂, codes, ◌≡◌, ◌∙◌}
use Rattle.std.proofs.lemmas.Result.{IfOk-weaker}
use Rattle.clap.specs.Words.{app_of, rule_of, with_rule}
use Rattle.command_words.specs.Grammar.{positional}
use Rattle.reward_words.specs.Grammar.{rewarded_app}
use Rattle.reward_words.proofs.grammar.audit_reward_command.Goals as goal

pub returns : goal.returns
returns c =
    let rewarded : app_of c.in_ok-rewarded_command.field-0 ≡ rewarded_app (codes "audit") = search rules in
    let certificate : rule_of c.positional.result ≡ positional (codes "certificate") = search rules in
    IfOk-weaker c.arg.result _ _
    (λ r h. h.shape c.positional.ensures.local ∙ ap₂ with_rule rewarded certificate) c.arg.ensures
