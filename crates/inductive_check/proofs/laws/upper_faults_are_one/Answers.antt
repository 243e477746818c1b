use Rattle.inductive_check.proofs.Causes.{upper_fault-one}
use Rattle.inductive_check.proofs.laws.upper_faults_are_one.Goals as goal

pub returns : goal.returns
returns c = upper_fault-one
