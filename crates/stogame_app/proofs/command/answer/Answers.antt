use Rattle.std.proofs.lemmas.Result.{err_from_is_err_and}
use Rattle.command_words.specs.Words.{asked_of_words, audit_of, check_of, solve_of}
use Rattle.inputs.proofs.Leaving.{answer_small}
use Rattle.stogame_app.proofs.Answered.{answered_by, audit_asks, check_asks, solve_asks, sure_asks, unloaded}
use Rattle.stogame_app.proofs.command.answer.Goals as goal

pub returns-in_err-loaded-in-Check : goal.returns-in_err-loaded-in-Check
returns-in_err-loaded-in-Check g c =
    let p = err_from_is_err_and c.from_residual.result
    c.from_residual.ensures.1 in
    let e = c.in_err-loaded-in-Check.ensures in
    rw (c.in-Check.is, p.1, p.2)
    (unloaded (check_asks (check_of c.in-Check.check)) e.refused e.steadily e.shelf e.caused)

pub check_loaded-requires-clause-read : goal.check_loaded-requires-clause-read
check_loaded-requires-clause-read g c =
    λ κs live. (g.H.Shelf.held c.args.shelf.now, c.in_ok-loaded-in-Check.ensures.reads)

pub returns-in_ok-loaded-in-Check : goal.returns-in_ok-loaded-in-Check
returns-in_ok-loaded-in-Check g c = rw c.in-Check.is (answered_by (check_asks (check_of c.in-Check.check))
    c.in_ok-loaded-in-Check.ensures.shelf c.in_ok-loaded-in-Check.ensures.reads c.check_loaded.ensures)

pub returns-in_err-loaded-in-Audit : goal.returns-in_err-loaded-in-Audit
returns-in_err-loaded-in-Audit g c =
    let p = err_from_is_err_and c.from_residual-in_err-loaded-in-Audit.result
    c.from_residual-in_err-loaded-in-Audit.ensures.1 in
    let e = c.in_err-loaded-in-Audit.ensures in
    rw (c.in-Audit.is, p.1, p.2)
    (unloaded (audit_asks (audit_of c.in-Audit.audit)) e.refused e.steadily e.shelf e.caused)

pub returns-in_ok-loaded-in-Audit : goal.returns-in_ok-loaded-in-Audit
returns-in_ok-loaded-in-Audit g c = rw c.in-Audit.is
    (c.audit_loaded.ensures c.args.shelf.now c.in_ok-loaded-in-Audit.ensures.reads
    c.in_ok-loaded-in-Audit.ensures.shelf)

pub returns-in_err-loaded-in-Solve : goal.returns-in_err-loaded-in-Solve
returns-in_err-loaded-in-Solve g c =
    let p = err_from_is_err_and c.from_residual-in_err-loaded-in-Solve.result
    c.from_residual-in_err-loaded-in-Solve.ensures.1 in
    let e = c.in_err-loaded-in-Solve.ensures in
    rw (c.in-Solve.is, p.1, p.2)
    (unloaded (solve_asks (solve_of c.in-Solve.solve)) e.refused e.steadily e.shelf e.caused)

pub solve_loaded-requires-clause-taken : goal.solve_loaded-requires-clause-taken
solve_loaded-requires-clause-taken g c = λ κs live. answer_small _ _ c.in_ok-loaded-in-Solve.ensures.shelf.takes

pub solve_loaded-requires-clause-read : goal.solve_loaded-requires-clause-read
solve_loaded-requires-clause-read g c =
    λ κs live. (g.H.Shelf.held c.args.shelf.now, c.in_ok-loaded-in-Solve.ensures.reads)

pub returns-in_ok-loaded-in-Solve : goal.returns-in_ok-loaded-in-Solve
returns-in_ok-loaded-in-Solve g c = rw c.in-Solve.is
    (c.solve_loaded.ensures c.args.shelf.now c.in_ok-loaded-in-Solve.ensures.reads
    c.in_ok-loaded-in-Solve.ensures.shelf)

pub returns-in_err-loaded-in-Sure : goal.returns-in_err-loaded-in-Sure
returns-in_err-loaded-in-Sure g c =
    let p = err_from_is_err_and c.from_residual-in_err-loaded-in-Sure.result
    c.from_residual-in_err-loaded-in-Sure.ensures.1 in
    let e = c.in_err-loaded-in-Sure.ensures in
    rw (c.in-Sure.is, p.1, p.2)
    (unloaded (sure_asks (asked_of_words c.in-Sure.asked)) e.refused e.steadily e.shelf e.caused)

pub returns-in_ok-loaded-in-Sure : goal.returns-in_ok-loaded-in-Sure
returns-in_ok-loaded-in-Sure g c = rw c.in-Sure.is (answered_by (sure_asks (asked_of_words c.in-Sure.asked))
    c.in_ok-loaded-in-Sure.ensures.shelf c.in_ok-loaded-in-Sure.ensures.reads c.sure_loaded.ensures)
