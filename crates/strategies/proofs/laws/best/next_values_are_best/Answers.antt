use Rattle.strategies.proofs.Next.{best-next}
use Rattle.strategies.proofs.laws.best.next_values_are_best.Goals as goal

pub returns : goal.returns
returns c = λ q holds posed. best-next q posed holds
