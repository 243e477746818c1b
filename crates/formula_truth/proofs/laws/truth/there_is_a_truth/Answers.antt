use Rattle.formula_truth.proofs.Existing.{truth-of}
use Rattle.formula_truth.proofs.laws.truth.there_is_a_truth.Goals as goal

pub returns : goal.returns
returns c = truth-of
