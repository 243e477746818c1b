use Rattle.attractors.proofs.Least.{least}
use Rattle.attractors.proofs.laws.attractors_are_least.Goals as goal

pub returns : goal.returns
returns c = λ q excluded set other h closed has. least q excluded set other h closed has
