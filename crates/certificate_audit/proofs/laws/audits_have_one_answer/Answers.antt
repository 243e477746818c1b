use Rattle.certificate_audit.proofs.OneAnswer.{refused-one, accepted-not_refused, accepted-one}
use Rattle.certificate_audit.proofs.laws.audits_have_one_answer.Goals as goal

pub returns-clause-fault : goal.returns-clause-fault
returns-clause-fault c = refused-one

pub returns-clause-accepted : goal.returns-clause-accepted
returns-clause-accepted c = accepted-not_refused

pub returns-clause-entries : goal.returns-clause-entries
returns-clause-entries c = accepted-one
