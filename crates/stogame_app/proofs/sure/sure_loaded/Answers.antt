use Rattle.std.proofs.lemmas.Result.{err_from_is_err_and}
use Rattle.inputs.specs.declared.problem.Paths.TheVariants.{Reaching}
use Rattle.formula_sets.specs.Seen.{posing_of}
use Rattle.inputs.specs.SeenProblems.{problem_of}
use Rattle.command_words.specs.Words.{asked_of_words}
use Rattle.formula_reader.specs.Formula.{tree_of}
use Rattle.stogame_app.specs.Reports.{of_sure}
use Rattle.stogame_app.proofs.Answered.{reached-inside, report_made, sure_asks, unposed, want_made}
use Rattle.stogame_app.proofs.sure.sure_loaded.Goals as goal

pub returns-in_err-problem : goal.returns-in_err-problem
returns-in_err-problem c =
    let p = err_from_is_err_and c.from_residual.result c.from_residual.ensures.1 in
    let e = c.in_err-problem.ensures in
    rw (p.1, p.2) (unposed (sure_asks (asked_of_words c.args.asked.now)) problem_of e.says e.nothing)

pub sure_report-requires : goal.sure_report-requires
sure_report-requires c = rw (c.deref.ensures.value) (reached-inside (problem_of c.in_ok-problem.problem)
    (posing_of c.reached-posed.result.now) c.reached-posed.ensures c.in_ok-problem.ensures.inside)

pub returns : goal.returns
returns c =
    let report = c.in_ok-report.report in
    let problem = problem_of c.in_ok-problem.problem in
    report_made _ (λ holding words taken reads denoted short. of_sure (asked_of_words c.args.asked.now) problem
    (posing_of c.reached-posed.result.now) (tree_of c.args.loaded.now.formula) report.all
    (record {
      denoted = denoted;
      posed = reads.asks Reaching problem c.in_ok-problem.ensures.says;
      spelled = reads.spelled;
      short = short;
    }) c.reached-posed.ensures
    (rw c.deref.ensures.value at c.in_ok-report.ensures) c.sure_status.ensures.status) c.sure_status.ensures.answer

pub returns-in_err-report : goal.returns-in_err-report
returns-in_err-report c =
    let p = err_from_is_err_and c.from_residual-in_err-report.result c.from_residual-in_err-report.ensures.1 in
    rw (p.1, p.2) (want_made)
