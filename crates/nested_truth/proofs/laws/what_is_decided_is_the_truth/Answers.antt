use Rattle.nested_truth.proofs.Decided.{decided-truth}
use Rattle.nested_truth.proofs.laws.what_is_decided_is_the_truth.Goals as goal

pub returns-clause-sure : goal.returns-clause-sure
returns-clause-sure c =
    λ m truth way x found game is parts h none. (decided-truth m game truth is way x found parts h none).sure

pub returns-clause-possible : goal.returns-clause-possible
returns-clause-possible c =
    λ m truth way x found game is parts h none. (decided-truth m game truth is way x found parts h none).possible
