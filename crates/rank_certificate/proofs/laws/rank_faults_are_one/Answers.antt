use Rattle.rank_certificate.proofs.Causes.{rank_fault-one}
use Rattle.rank_certificate.proofs.laws.rank_faults_are_one.Goals as goal

pub returns : goal.returns
returns c = rank_fault-one
