use Rattle.std.proofs.Common.{rules, ap, ap₂, codes, ◌≡◌, ◌∙◌}
use Rattle.std.proofs.lemmas.Result.{IfOk-weaker}
use Rattle.clap.specs.Words.{app_of, rule_of, with_rule}
use Rattle.command_words.specs.Grammar.{asked_app, flag, with_run_limits}
use Rattle.command_words.proofs.grammar.check_command.Goals as goal

pub returns : goal.returns
returns c =
    let asked : app_of c.in_ok-asked_command.field-0 ≡ asked_app (codes "check") = search rules in
    let plan : rule_of c.flag.result ≡ flag (codes "plan") = search rules in
    let traps : rule_of c.flag-2.result ≡ flag (codes "traps") = search rules in
    let limited = c.in_ok-with_run_limits.ensures ∙ ap with_run_limits asked in
    let planned = c.in_ok-arg.ensures.shape c.flag.ensures.local ∙ ap₂ with_rule limited plan in
    IfOk-weaker c.arg-2.result _ _ (λ r h. h.shape c.flag-2.ensures.local ∙ ap₂ with_rule planned traps) c.arg-2.ensures
