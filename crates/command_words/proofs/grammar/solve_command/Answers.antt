use Rattle.std.proofs.Common.{rules, ap₂, codes, ◌≡◌, ◌∙◌}
use Rattle.std.proofs.lemmas.Result.{IfOk-weaker}
use Rattle.clap.specs.Words.{app_of, rule_of, with_rule}
use Rattle.command_words.specs.Grammar.{asked_app, flag, option}
use Rattle.command_words.proofs.grammar.solve_command.Goals as goal

pub returns : goal.returns
returns c =
    let asked : app_of c.in_ok-asked_command.field-0 ≡ asked_app (codes "solve") = search rules in
    let values : rule_of c.option.result ≡ option (codes "values") = search rules in
    let plan : rule_of c.flag.result ≡ flag (codes "plan") = search rules in
    let valued = c.in_ok-arg.ensures.shape c.option.ensures.local ∙ ap₂ with_rule asked values in
    IfOk-weaker c.arg-2.result _ _ (λ r h. h.shape c.flag.ensures.local ∙ ap₂ with_rule valued plan) c.arg-2.ensures
