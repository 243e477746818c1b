use Rattle.attractors.proofs.Least.{one}
use Rattle.attractors.proofs.laws.attractors_are_one.Goals as goal

pub returns : goal.returns
returns c = λ q excluded set other h k. one q excluded set other h k
