use Rattle.std.proofs.Common.{rules, ap₂, codes, ◌≡◌, ◌∙◌}
use Rattle.std.proofs.lemmas.Result.{IfOk-weaker}
use Rattle.clap.specs.Words.{rule_of, with_rule}
use Rattle.command_words.specs.Grammar.{positional, option}
use Rattle.command_words.proofs.grammar.asked_command.Goals as goal

pub returns : goal.returns
returns c =
    let tra : rule_of c.positional.result ≡ positional (codes "tra") = search rules in
    let lab : rule_of c.positional-2.result ≡ positional (codes "lab") = search rules in
    let formula : rule_of c.positional-3.result ≡ positional (codes "formula") = search rules in
    let own : rule_of c.option.result ≡ option (codes "own") = search rules in
    let one = c.in_ok-arg.ensures.shape c.positional.ensures.local ∙ ap₂ with_rule c.bare_command.ensures tra in
    let two = c.in_ok-arg-2.ensures.shape c.positional-2.ensures.local ∙ ap₂ with_rule one lab in
    let three = c.in_ok-arg-3.ensures.shape c.positional-3.ensures.local ∙ ap₂ with_rule two formula in
    IfOk-weaker c.arg-4.result _ _ (λ r h. h.shape c.option.ensures.local ∙ ap₂ with_rule three own) c.arg-4.ensures
