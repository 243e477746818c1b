use Rattle.std.proofs.lemmas.Result.{err_from_is_err_and}
use Rattle.command_words.specs.Words.{check_of}
use Rattle.inputs.specs.SeenProblems.{problem_of}
use Rattle.stogame_app.specs.Commands.{check_paths}
use Rattle.stogame_app.proofs.Answered.{check_asks, report_made, unposed, want_made}
use Rattle.stogame_app.proofs.Posed.{reportable}
use Rattle.stogame_app.proofs.check.check_loaded.Goals as goal

pub returns-in_err-problem : goal.returns-in_err-problem
returns-in_err-problem g c =
    let p = err_from_is_err_and c.from_residual.result c.from_residual.ensures.1 in
    let e = c.in_err-problem.ensures in
    rw (p.1, p.2)
    (unposed (check_asks (check_of c.args.check.now)) problem_of (rw c.check_paths.ensures at e.says) e.nothing)

pub report_on-requires-clause-reportable : goal.report_on-requires-clause-reportable
report_on-requires-clause-reportable g c =
    let reads = c.requires.read.1 in
    let a = (reads.asks (check_paths (check_of c.args.check.now)) (problem_of c.in_ok-problem.problem)
    (rw c.check_paths.ensures at c.in_ok-problem.ensures.says)).asks in
    λ κs live. reportable a.game a.labels a.owners a.formula c.args.loaded.now c.in_ok-problem.problem a.poses
    c.in_ok-problem.ensures.same c.requires.sizes
    (c.formulas_of_texts_are_spellable.ensures _ _ reads.spelled) (c.formulas_inside_are_few.ensures _ _ reads.spelled)

pub report_on-requires-clause-steps : goal.report_on-requires-clause-steps
report_on-requires-clause-steps g c =
    λ κs live. (c.formulas_of_texts_are_spellable.ensures _ _ c.requires.read.1.spelled).kind

pub returns : goal.returns
returns g c =
    let problem = problem_of c.in_ok-problem.problem in
    report_made c.in_ok-answer.answer
    (λ holding words taken reads denoted short. c.in_ok-answer.ensures.report words holding taken
    (record {
      denoted = denoted;
      posed = reads.asks (check_paths (check_of c.args.check.now)) problem
          (rw c.check_paths.ensures at c.in_ok-problem.ensures.says);
      spelled = reads.spelled;
      short = short;
    })) c.in_ok-answer.ensures.answer

pub returns-in_err-answer : goal.returns-in_err-answer
returns-in_err-answer g c =
    let p = err_from_is_err_and c.from_residual-in_err-answer.result c.from_residual-in_err-answer.ensures.1 in
    rw (p.1, p.2) (want_made)
