use Rattle.plan_text.proofs.Certificates.{what_is_read, what_is_told}
use Rattle.plan_text.proofs.laws.certificates_are_what_is_read.Goals as goal

pub returns : goal.returns
returns c = λ text states entries. (what_is_read text states entries, λ is. what_is_told text states entries is.0 is.1)
