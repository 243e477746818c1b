use Rattle.plan_text.proofs.CertificatesReadBack.{read_back}
use Rattle.plan_text.proofs.laws.certificates_are_read_back.Goals as goal

pub returns : goal.returns
returns c = read_back
