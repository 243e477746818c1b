use Rattle.std.proofs.Common.{Option, subst}
use Rattle.std.proofs.lemmas.Result.{err_from_is_err_and}
use Rattle.game_outside.specs.Outside.{Holding}
use Rattle.command_words.specs.Words.{solve_of}
use Rattle.inputs.specs.Problems.{states_of}
use Rattle.inputs.specs.Questions.{GivesValues}
use Rattle.inputs.specs.SeenProblems.{problem_of}
use Rattle.stogame_app.specs.Commands.{solve_paths}
use Rattle.inputs.proofs.Leaving.{both_leave}
use Rattle.stogame_app.proofs.Answered.{answered_by, reported, solve_asks, unhinted, unposed, wanting}
use Rattle.stogame_app.proofs.Posed.{reportable}
use Rattle.stogame_app.proofs.solve.solve_loaded.Goals as goal

pub returns-in_err-problem : goal.returns-in_err-problem
returns-in_err-problem g c before reads leaves =
    let p = err_from_is_err_and c.from_residual.result c.from_residual.ensures.1 in
    let e = c.in_err-problem.ensures in
    rw (p.1, p.2) (answered_by (solve_asks (solve_of c.args.solve.now)) leaves reads
    (unposed (solve_asks (solve_of c.args.solve.now)) problem_of (rw c.solve_paths.ensures at e.says) e.nothing))

pub returns-in_err-read : goal.returns-in_err-read
returns-in_err-read g c before reads leaves =
    let p = err_from_is_err_and c.from_residual-in_err-read.result c.from_residual-in_err-read.ensures.1 in
    let solve = solve_of c.args.solve.now in
    let problem = problem_of c.in_ok-problem.problem in
    let e = c.in_err-read.ensures in
    rw (p.1, p.2) (unhinted leaves solve problem
    (reads.asks (solve_paths solve) problem (rw c.solve_paths.ensures at c.in_ok-problem.ensures.says))
    (rw c.states_in.ensures at e.refused) e.steadily e.shelf e.caused)

pub report_on-requires-clause-reportable : goal.report_on-requires-clause-reportable
report_on-requires-clause-reportable g c =
    let reads = c.requires.read.1 in
    let a = (reads.asks (solve_paths (solve_of c.args.solve.now)) (problem_of c.in_ok-problem.problem)
    (rw c.solve_paths.ensures at c.in_ok-problem.ensures.says)).asks in
    λ κs live. reportable a.game a.labels a.owners a.formula c.args.loaded.now c.in_ok-problem.problem a.poses
    c.in_ok-problem.ensures.same c.requires.sizes
    (c.formulas_of_texts_are_spellable.ensures _ _ reads.spelled) (c.formulas_inside_are_few.ensures _ _ reads.spelled)

pub report_on-requires-clause-steps : goal.report_on-requires-clause-steps
report_on-requires-clause-steps g c =
    λ κs live. (c.formulas_of_texts_are_spellable.ensures _ _ c.requires.read.1.spelled).kind

pub returns : goal.returns
returns g c before reads leaves =
    let answer = c.in_ok-answer.answer in
    let solve = solve_of c.args.solve.now in
    let problem = problem_of c.in_ok-problem.problem in
    reported (solve_asks solve) (both_leave leaves c.in_ok-read.ensures.shelf) answer
    (λ words denoted short. c.in_ok-answer.ensures.report words _ _
    (record {
      denoted = denoted;
      posed =
          reads.asks (solve_paths solve) problem (rw c.solve_paths.ensures at c.in_ok-problem.ensures.says);
      spelled = reads.spelled;
      short = short;
    })
    (subst (λ (h : Option Holding). GivesValues h solve.values (states_of problem)) leaves.kept.held
    (rw c.states_in.ensures at c.in_ok-read.ensures.accepted))) c.in_ok-answer.ensures.answer

pub returns-in_err-answer : goal.returns-in_err-answer
returns-in_err-answer g c before reads leaves =
    let p = err_from_is_err_and c.from_residual-in_err-answer.result c.from_residual-in_err-answer.ensures.1 in
    rw (p.1, p.2) (wanting (solve_asks (solve_of c.args.solve.now)) (both_leave leaves c.in_ok-read.ensures.shelf))
