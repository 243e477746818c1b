use Rattle.formula_truth.proofs.CoarseBounds.{coarse-inside, coarse-bounds}
use Rattle.formula_truth.proofs.laws.coarse.there_are_coarse_bounds.Goals as goal

pub returns-clause-inside : goal.returns-clause-inside
returns-clause-inside c = λ m x asked game. coarse-inside m game asked x

pub returns-clause-outermost : goal.returns-clause-outermost
returns-clause-outermost c = λ m f asked game. coarse-bounds m game asked f
