use Rattle.certificate_audit.proofs.Soundness.{sound}
use Rattle.certificate_audit.proofs.laws.accepted_plans_are_sound.Goals as goal

pub returns : goal.returns
returns c = λ q text plan posed is. sound q plan posed is.passes
