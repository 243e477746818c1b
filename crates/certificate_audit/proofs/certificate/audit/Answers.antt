use Rattle.std.proofs.Common.{inr, rules}
use Rattle.std.proofs.lemmas.Result.{err_from_is_err_and}
use Rattle.certificate_audit.specs.Accepted.{IsSaid}
use Rattle.certificate_audit.proofs.Soundness.{sound}
use Rattle.certificate_audit.proofs.Saying.{read-said, fault-refused}
use Rattle.certificate_audit.proofs.certificate.audit.Goals as goal

pub returns-in_err-check_plan-clause-refused : goal.returns-in_err-check_plan-clause-refused
returns-in_err-check_plan-clause-refused c =
    let q = c.args.question.now in
    let text = c.args.bytes.now in
    let plan = c.in_ok-plan.plan in
    let said : IsSaid q text plan =
    read-said q text plan c.states.result (search rules) c.in_ok-plan.ensures.lists c.in_ok-plan.ensures.said in
    let answer =
    err_from_is_err_and c.from_residual-in_err-check_plan.result c.from_residual-in_err-check_plan.ensures.1 in
    rw (answer.1, answer.2)
    (inr (fault-refused q text plan c.in_err-check_plan.field-0.0 said c.in_err-check_plan.ensures.fault))

pub returns-clause-accepted : goal.returns-clause-accepted
returns-clause-accepted c = record {
  read = read-said c.args.question.now c.args.bytes.now c.in_ok-plan.plan c.states.result
      (search rules) c.in_ok-plan.ensures.lists c.in_ok-plan.ensures.said;
  passes = c.in_ok-check_plan.ensures.passes;
}

pub returns-clause-sound : goal.returns-clause-sound
returns-clause-sound c =
    sound c.args.question.now c.in_ok-plan.plan c.invariant.ensures c.in_ok-check_plan.ensures.passes
