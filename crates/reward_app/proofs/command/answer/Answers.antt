use Rattle.std.proofs.lemmas.Result.{err_from_is_err_and}
use Rattle.reward_words.specs.Words.{audit_reward_of, solve_reward_of}
use Rattle.reward_app.proofs.Answered.{answered_by, audit_asks, solve_asks, unloaded}
use Rattle.reward_app.proofs.command.answer.Goals as goal

pub returns-in_err-loaded-in-Audit : goal.returns-in_err-loaded-in-Audit
returns-in_err-loaded-in-Audit g c =
    let p = err_from_is_err_and c.from_residual.result
    c.from_residual.ensures.1 in
    let e = c.in_err-loaded-in-Audit.ensures in
    rw (c.in-Audit.is, p.1, p.2)
    (unloaded (audit_asks (audit_reward_of c.in-Audit.audit)) e.refused e.steadily e.shelf e.caused)

pub returns-in_ok-loaded-in-Audit : goal.returns-in_ok-loaded-in-Audit
returns-in_ok-loaded-in-Audit g c = rw c.in-Audit.is
    (c.audit_loaded.ensures c.args.shelf.now c.in_ok-loaded-in-Audit.ensures.reads
    c.in_ok-loaded-in-Audit.ensures.shelf)

pub returns-in_err-loaded-in-Solve : goal.returns-in_err-loaded-in-Solve
returns-in_err-loaded-in-Solve g c =
    let p = err_from_is_err_and c.from_residual-in_err-loaded-in-Solve.result
    c.from_residual-in_err-loaded-in-Solve.ensures.1 in
    let e = c.in_err-loaded-in-Solve.ensures in
    rw (c.in-Solve.is, p.1, p.2)
    (unloaded (solve_asks (solve_reward_of c.in-Solve.solve)) e.refused e.steadily e.shelf e.caused)

pub returns-in_ok-loaded-in-Solve : goal.returns-in_ok-loaded-in-Solve
returns-in_ok-loaded-in-Solve g c = rw c.in-Solve.is (answered_by (solve_asks (solve_reward_of c.in-Solve.solve))
    c.in_ok-loaded-in-Solve.ensures.shelf c.in_ok-loaded-in-Solve.ensures.reads c.solve_loaded.ensures)
