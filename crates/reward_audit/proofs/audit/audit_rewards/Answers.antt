use Rattle.std.proofs.Common.{inr, refl, sym, subst, rules}
use Rattle.std.proofs.lemmas.Result.{err_from_is_err_and}
use Rattle.reward_text.specs.declared.plan.RewardPlan.{RewardPlan}
use Rattle.reward_check.specs.Certificates.{Certificate}
use Rattle.reward_check.specs.Parts.{IsAccepted}
use Rattle.reward_check.specs.Faults.{IsRewardFault}
use Rattle.reward_units.specs.Rounded.{exact_in}
use Rattle.reward_audit.specs.Accepted.{IsSaid, IsCertificateOf}
use Rattle.reward_audit.specs.Audited.{audited_certificate}
use Rattle.reward_audit.specs.Refused.{IsFaulty}
use Rattle.reward_audit.proofs.Saying.{read-said}
use Rattle.reward_audit.proofs.audit.audit_rewards.Goals as goal

pub returns-in_err-check_rewards-clause-refused : goal.returns-in_err-check_rewards-clause-refused
returns-in_err-check_rewards-clause-refused c =
    let q = c.args.question.now in
    let text = c.args.bytes.now in
    let fault = c.in_err-check_rewards.field-0.0 in
    let faulty : IsFaulty q (exact_in q.game c.args.rewards.now) text fault = record {
      plan = c.in_ok-plan.plan;
      read = read-said q text c.in_ok-plan.plan c.states.result c.reward_certificates_are_what_is_read.ensures
          (search rules) c.in_ok-plan.ensures.lists c.in_ok-plan.ensures.said;
      certificate = audited_certificate q c.in_ok-audited.audited;
      of_plan = c.in_ok-audited.ensures.certificate;
      first = subst (λ (d : Certificate). IsRewardFault d fault.state fault.cause) c.tables.ensures
          c.in_err-check_rewards.ensures.fault;
    } in
    let answer =
    err_from_is_err_and c.from_residual-in_err-check_rewards.result c.from_residual-in_err-check_rewards.ensures.1 in
    rw (answer.1, answer.2) (inr faulty)

pub returns-clause-accepted : goal.returns-clause-accepted
returns-clause-accepted c =
    let q = c.args.question.now in
    let text = c.args.bytes.now in
    let same = sym c.in_ok-audited.ensures.same in
    let certificate = audited_certificate q c.in_ok-audited.audited in
    record {
      read = subst (λ (p : RewardPlan). IsSaid q text p) same
          (read-said q text c.in_ok-plan.plan c.states.result c.reward_certificates_are_what_is_read.ensures
          (search rules) c.in_ok-plan.ensures.lists c.in_ok-plan.ensures.said);
      of_plan = subst (λ (p : RewardPlan). IsCertificateOf q (exact_in q.game c.args.rewards.now) p certificate) same
          c.in_ok-audited.ensures.certificate;
      passes = subst (λ (d : Certificate). IsAccepted d) c.tables.ensures (c.in_ok-check_rewards.ensures.ok.0 refl);
    }
