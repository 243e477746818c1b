use Rattle.std.proofs.Common.{Option, List, subst, sym}
use Rattle.std.proofs.lemmas.Result.{err_from_is_err_and}
use Rattle.game_outside.specs.Outside.{Holding}
use Rattle.game_model.specs.Game.{Distribution}
use Rattle.inputs.specs.Asks.{GivenTextWith}
use Rattle.inputs.specs.Sources.{SourceWith}
use Rattle.rewards_reader.specs.Rewards.{HasRewards}
use Rattle.reward_words.specs.Words.{OfAuditReward, audit_reward_of}
use Rattle.reward_audit.specs.Accepted.{IsAcceptedText}
use Rattle.reward_audit.specs.Audited.{audited_certificate}
use Rattle.reward_inputs.specs.Seen.{question_of}
use Rattle.reward_app.specs.OfWords.{of_audit}
use Rattle.reward_app.specs.Reports.{HasRewardsOf, RefusesOver, RefusesRewardCertificate, exact_by}
use Rattle.reward_app.proofs.Answered.{audit_asks, both_leave, reported, uncertified, unposed, wanting}
use Rattle.reward_app.proofs.Certified.{accepted_audited, weaker_source}
use Rattle.reward_app.proofs.audit.audit_loaded.Goals as goal

pub returns-in_err-problem : goal.returns-in_err-problem
returns-in_err-problem g c before reads leaves =
    let p = err_from_is_err_and c.from_residual.result c.from_residual.ensures.1 in
    let e = c.in_err-problem.ensures in
    rw (p.1, p.2) (unposed (audit_asks (audit_reward_of c.args.audit.now)) c.args.loaded.now (question_of reads.lines)
    reads (e.says reads.lines) e.nothing leaves)

pub returns-in_err-made : goal.returns-in_err-made
returns-in_err-made g c before reads leaves =
    let p = err_from_is_err_and c.from_residual-in_err-made.result c.from_residual-in_err-made.ensures.1 in
    let audit = audit_reward_of c.args.audit.now in
    let table = c.args.loaded.now.rewards in
    let question = question_of reads.lines c.in_ok-problem.problem in
    let asked = reads.asks question (c.in_ok-problem.ensures.says reads.lines) in
    let has : HasRewardsOf question table =
    subst (λ (game : List (List Distribution)). HasRewards game reads.lines table)
    (sym c.in_ok-problem.ensures.game) reads.has in
    let e = c.in_err-made.ensures in
    rw (p.1, p.2) (uncertified leaves audit question asked
    (λ refusal is. weaker_source _ audit.certificate
    (λ source. RefusesOver question.posing.question (exact_by question table) source refusal)
    (λ source. RefusesRewardCertificate question source refusal)
    (λ source over. record { table = table; has = has; refused = over }) (e.refused refusal is))
    e.steadily e.shelf e.caused)

pub returns : goal.returns
returns g c before reads leaves =
    let answer = c.in_ok-answer.answer in
    let audit = audit_reward_of c.args.audit.now in
    let table = c.args.loaded.now.rewards in
    let question = question_of reads.lines c.in_ok-problem.problem in
    let asked = reads.asks question (c.in_ok-problem.ensures.says reads.lines) in
    let has : HasRewardsOf question table =
    subst (λ (game : List (List Distribution)). HasRewards game reads.lines table)
    (sym c.in_ok-problem.ensures.game) reads.has in
    let made = c.in_ok-made.made in
    let certificate = audited_certificate question.posing.question made in
    let Q : Option Holding → Type 0 = λ h. SourceWith h audit.certificate (λ source. GivenTextWith source (λ bytes.
    IsAcceptedText question.posing.question (exact_by question table) bytes made.plan certificate)) in
    reported (OfAuditReward audit) (both_leave leaves c.in_ok-made.ensures.shelf) answer
    (λ words denoted short. of_audit audit question
    (record { denoted = denoted; asks = asked; short = short })
    (accepted_audited _ audit.certificate question table made.plan certificate answer.text.items answer.status has
    (rw c.deref.ensures.value at c.in_ok-answer.ensures.report)
    (subst Q leaves.kept.held c.in_ok-made.ensures.accepted))) c.in_ok-answer.ensures.answer

pub returns-in_err-answer : goal.returns-in_err-answer
returns-in_err-answer g c before reads leaves =
    let p = err_from_is_err_and c.from_residual-in_err-answer.result c.from_residual-in_err-answer.ensures.1 in
    rw (p.1, p.2) (wanting (OfAuditReward (audit_reward_of c.args.audit.now))
    (both_leave leaves c.in_ok-made.ensures.shelf))
