use Rattle.std.proofs.Common.{Option, subst}
use Rattle.std.proofs.lemmas.Result.{err_from_is_err_and}
use Rattle.game_outside.specs.Outside.{Holding}
use Rattle.formula_reader.specs.Formula.{tree_of}
use Rattle.certificate_audit.specs.Accepted.{IsAccepted}
use Rattle.command_words.specs.Words.{audit_of}
use Rattle.inputs.specs.declared.problem.Paths.TheVariants.{Unbounded}
use Rattle.inputs.specs.Asks.{GivenTextWith}
use Rattle.formula_sets.specs.Seen.{posing_of}
use Rattle.inputs.specs.SeenProblems.{problem_of}
use Rattle.inputs.specs.Sources.{SourceWith}
use Rattle.stogame_app.specs.Reports.{of_audit}
use Rattle.inputs.proofs.Leaving.{both_leave}
use Rattle.stogame_app.proofs.Answered.{answered_by, audit_asks, reached-inside, reported, uncertified}
use Rattle.stogame_app.proofs.Answered.{unposed, wanting}
use Rattle.reports.proofs.AuditedTexts.{accepted_audited}
use Rattle.stogame_app.proofs.audit.audit_loaded.Goals as goal

pub returns-in_err-problem : goal.returns-in_err-problem
returns-in_err-problem g c before reads leaves =
    let p = err_from_is_err_and c.from_residual.result c.from_residual.ensures.1 in
    let e = c.in_err-problem.ensures in
    rw (p.1, p.2) (answered_by (audit_asks (audit_of c.args.audit.now)) leaves reads
    (unposed (audit_asks (audit_of c.args.audit.now)) problem_of e.says e.nothing))

pub returns-in_err-plan : goal.returns-in_err-plan
returns-in_err-plan g c before reads leaves =
    let p = err_from_is_err_and c.from_residual-in_err-plan.result c.from_residual-in_err-plan.ensures.1 in
    let problem = problem_of c.in_ok-problem.problem in
    let e = c.in_err-plan.ensures in
    rw (p.1, p.2) (uncertified leaves (audit_of c.args.audit.now) problem (posing_of c.reached-posed.result.now)
    (reads.asks Unbounded problem c.in_ok-problem.ensures.says) c.reached-posed.ensures e.refused
    e.steadily e.shelf e.caused)

pub audit_report-requires-clause-inside : goal.audit_report-requires-clause-inside
audit_report-requires-clause-inside g c =
    rw (c.deref.ensures.value) (reached-inside (problem_of c.in_ok-problem.problem)
    (posing_of c.reached-posed.result.now) c.reached-posed.ensures c.in_ok-problem.ensures.inside)

pub returns : goal.returns
returns g c before reads leaves =
    let answer = c.in_ok-answer.answer in
    let holding = g.H.Shelf.held before in
    let name = c.args.audit.now.certificate.now in
    let problem = problem_of c.in_ok-problem.problem in
    let posing = posing_of c.reached-posed.result.now in
    let question = posing.question in
    let formula = tree_of c.args.loaded.now.formula in
    let plan = c.in_ok-plan.plan in
    let Q : Option Holding → Type 0 =
    λ h. SourceWith h name (λ source. GivenTextWith source (λ bytes. IsAccepted question bytes plan)) in
    reported (audit_asks (audit_of c.args.audit.now)) (both_leave leaves c.in_ok-plan.ensures.shelf) answer
    (λ words denoted short. of_audit (audit_of c.args.audit.now) problem posing formula
    (record {
      denoted = denoted;
      posed = reads.asks Unbounded problem c.in_ok-problem.ensures.says;
      spelled = reads.spelled;
      short = short;
    }) c.reached-posed.ensures
    (accepted_audited holding name question posing.initial formula plan answer.text.items answer.status
    (subst Q leaves.kept.held c.in_ok-plan.ensures.accepted)
    (rw c.deref.ensures.value at c.in_ok-answer.ensures.audited))) c.in_ok-answer.ensures.answer

pub returns-in_err-answer : goal.returns-in_err-answer
returns-in_err-answer g c before reads leaves =
    let p = err_from_is_err_and c.from_residual-in_err-answer.result c.from_residual-in_err-answer.ensures.1 in
    rw (p.1, p.2) (wanting (audit_asks (audit_of c.args.audit.now)) (both_leave leaves c.in_ok-plan.ensures.shelf))
