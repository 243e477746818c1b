use Rattle.reward_audit.proofs.OneAnswer.{refused-one, accepted-not_refused, entries-one}
use Rattle.reward_audit.proofs.laws.reward_audits_have_one_answer.Goals as goal

pub returns-clause-fault : goal.returns-clause-fault
returns-clause-fault c = refused-one

pub returns-clause-accepted : goal.returns-clause-accepted
returns-clause-accepted c = accepted-not_refused

pub returns-clause-entries : goal.returns-clause-entries
returns-clause-entries c = entries-one
