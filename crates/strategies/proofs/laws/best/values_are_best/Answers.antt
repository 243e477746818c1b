use Rattle.strategies.proofs.Best.{best}
use Rattle.strategies.proofs.laws.best.values_are_best.Goals as goal

pub returns : goal.returns
returns c = best
