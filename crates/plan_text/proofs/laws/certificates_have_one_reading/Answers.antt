use Rattle.plan_text.proofs.CertificatesReadBack.{one_reading}
use Rattle.plan_text.proofs.laws.certificates_have_one_reading.Goals as goal

pub returns : goal.returns
returns c = one_reading
