use Rattle.std.proofs.Common.{length}
use Rattle.reward_formula.specs.Formula.{OfReward}
use Rattle.reward_app.proofs.Saved.{AreRewardCertificates, solved-accepted}
use Rattle.reward_app.proofs.AuditedAlike.{solved-audited}
use Rattle.reward_app.proofs.laws.saved_rewards_are_accepted.Goals as goal

pub returns-clause-accepted : goal.returns-clause-accepted
returns-clause-accepted c = λ holding asked name question text status asks is.
    let certificates : AreRewardCertificates = λ text certificate said.
    ((c.reward_certificates_are_what_is_read.ensures text (length certificate.entries) certificate).0 said).1 in
    solved-accepted c.reward_certificates_are_read_back.ensures certificates question text status
    (c.formulas_of_texts_are_spellable.ensures asked.formula (OfReward question.formula) asks.asks.spelled) is

pub returns-clause-audited : goal.returns-clause-audited
returns-clause-audited c = λ holding asked name question text status asks is.
    solved-audited question text status is (returns-clause-accepted c holding asked name question text status asks is)
