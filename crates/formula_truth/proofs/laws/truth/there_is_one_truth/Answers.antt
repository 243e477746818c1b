use Rattle.formula_truth.proofs.Unique.{one-truth}
use Rattle.formula_truth.proofs.laws.truth.there_is_one_truth.Goals as goal

pub returns : goal.returns
returns c = λ m valuation other game h k. one-truth m game valuation other h k
