use Rattle.std.proofs.Common.{◌∙◌, ◌+◌, [], sym, ap}
use Rattle.std.specs.Prelude.{codes}
use Rattle.std.proofs.lemmas.Result.{err_from_is_err_and}
use Rattle.text_lines.specs.Text.{lines_of, significant}
use Rattle.plan_text.specs.Said.{then_at, entries_from_by}
use Rattle.plan_text.proofs.Beginnings.{found-said, none-said}
use Rattle.reward_text.specs.Entries.{RewardCertificate}
use Rattle.reward_text.specs.Said.{reward_line_said, with_places, rewards_behind}
use Rattle.reward_text.proofs.heading.read_heading.Goals as goal

pub returns-in_err-line-clause-said : goal.returns-in_err-line-clause-said
returns-in_err-line-clause-said c =
    let answer = err_from_is_err_and c.from_residual.result c.from_residual.ensures.1 in
    rw (answer.1, answer.2) (none-said RewardCertificate (codes "rewards") (rewards_behind c.args.states) 1
    (significant (lines_of c.args.text.now)) c.in_err-line.field-0.0 c.in_err-line.ensures.said)

pub returns-in-Ok-clause-said : goal.returns-in-Ok-clause-said
returns-in-Ok-clause-said c =
    let rest = significant (lines_of c.in_ok-line.after.now) in
    found-said RewardCertificate (codes "rewards") (rewards_behind c.args.states) 1
    (significant (lines_of c.args.text.now)) c.in_ok-line.line.now c.in_ok-line.number rest c.in_ok-line.ensures.said
    ∙ ap (λ r. then_at c.in_ok-line.number r (λ places. with_places places
    (entries_from_by (reward_line_said places) c.args.states [] (c.in_ok-line.number + 1) rest)))
    (sym c.in-Ok.ensures.said)

pub returns-in-Err-clause-said : goal.returns-in-Err-clause-said
returns-in-Err-clause-said c =
    let rest = significant (lines_of c.in_ok-line.after.now) in
    found-said RewardCertificate (codes "rewards") (rewards_behind c.args.states) 1
    (significant (lines_of c.args.text.now)) c.in_ok-line.line.now c.in_ok-line.number rest c.in_ok-line.ensures.said
    ∙ ap (λ r. then_at c.in_ok-line.number r (λ places. with_places places
    (entries_from_by (reward_line_said places) c.args.states [] (c.in_ok-line.number + 1) rest)))
    (sym c.in-Err.ensures.said)
