use Rattle.certificate_audit.proofs.OldTables.{old_upper, old_replies, old_ranked}
use Rattle.certificate_audit.proofs.laws.old_certificates_mean_what_they_meant.Goals as goal

pub returns-clause-upper : goal.returns-clause-upper
returns-clause-upper c = old_upper

pub returns-clause-replies : goal.returns-clause-replies
returns-clause-replies c = old_replies

pub returns-clause-ranked : goal.returns-clause-ranked
returns-clause-ranked c = old_ranked
