use Rattle.std.proofs.Common.{subst}
use Rattle.std.specs.Prelude.{IfOk}
use Rattle.game_model.specs.Query.{Query}
use Rattle.reward_check.specs.Certificates.{Certificate, said}
use Rattle.reward_units.specs.Rounded.{exact_in}
use Rattle.reward_reports.specs.Reports.{IsRewardReport}
use Rattle.reward_app.proofs.report.report_on.Goals as goal

pub reward_report_of-requires-clause-inside : goal.reward_report_of-requires-clause-inside
reward_report_of-requires-clause-inside c = rw c.tables_of-tables.ensures.question c.requires.inside

pub reward_report_of-requires-clause-low : goal.reward_report_of-requires-clause-low
reward_report_of-requires-clause-low c =
    rw (c.tables_of-tables.ensures.question, c.tables_of-tables.ensures.low) c.requires.certified.low

pub reward_report_of-requires-clause-high : goal.reward_report_of-requires-clause-high
reward_report_of-requires-clause-high c =
    rw (c.tables_of-tables.ensures.question, c.tables_of-tables.ensures.high) c.requires.certified.high

pub reward_report_of-requires-clause-accepted : goal.reward_report_of-requires-clause-accepted
reward_report_of-requires-clause-accepted c = rw c.tables_of-tables.ensures.said c.requires.certified.passes

pub returns-clause-report : goal.returns-clause-report
returns-clause-report c =
    let tables = c.tables_of-tables.result in
    let e = c.tables_of-tables.ensures in
    let table = c.args.rewards.now in
    let initial = c.args.initial.now in
    let bound = c.args.bound.now in
    let places = c.args.made.now.plan.places in
    let P : Query → Certificate → Type 0 = λ q certificate. IfOk c.reward_report_of.result (λ answer.
    IsRewardReport q (exact_in q.game table) initial bound c.args.how places certificate answer.text.items
    answer.status) in
    subst (λ (certificate : Certificate). P c.args.question.now certificate) e.said
    (subst (λ (q : Query). P q (said tables)) e.question c.reward_report_of.ensures.report)
