use Rattle.std.proofs.Common.{rules, ap₂, codes, ◌≡◌, ◌∙◌}
use Rattle.std.proofs.lemmas.Result.{IfOk-weaker}
use Rattle.clap.specs.Words.{app_of, rule_of, with_rule}
use Rattle.command_words.specs.Grammar.{flag}
use Rattle.reward_words.specs.Grammar.{rewarded_app}
use Rattle.reward_words.proofs.grammar.solve_reward_command.Goals as goal

pub returns : goal.returns
returns c =
    let rewarded : app_of c.in_ok-rewarded_command.field-0 ≡ rewarded_app (codes "solve") = search rules in
    let plan : rule_of c.flag.result ≡ flag (codes "plan") = search rules in
    IfOk-weaker c.arg.result _ _
    (λ r h. h.shape c.flag.ensures.local ∙ ap₂ with_rule rewarded plan) c.arg.ensures
