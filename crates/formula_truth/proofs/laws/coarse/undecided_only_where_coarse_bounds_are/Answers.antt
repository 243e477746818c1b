use Rattle.formula_truth.specs.Truth.{states}
use Rattle.formula_truth.proofs.Inside.{finer, open-within, fewer-open, outermost as outermost-within}
use Rattle.formula_truth.proofs.laws.coarse.undecided_only_where_coarse_bounds_are.Goals as goal

pub returns-clause-finer : goal.returns-clause-finer
returns-clause-finer c = λ m asked x found coarse game parts h k. finer m game asked x found coarse parts h k

pub returns-clause-inside : goal.returns-clause-inside
returns-clause-inside c = λ m asked x found coarse game parts h k. open-within m game asked x found coarse parts h k

pub returns-clause-fewer : goal.returns-clause-fewer
returns-clause-fewer c = λ m asked x found coarse game parts h k.
    fewer-open (states m) x found coarse (open-within m game asked x found coarse parts h k)

pub returns-clause-outermost : goal.returns-clause-outermost
returns-clause-outermost c = λ m f asked starts bl cl br cr band coarse how game share left right inside lh rh h k.
    outermost-within m game asked f starts bl cl br cr band coarse how share left right inside lh rh h k
