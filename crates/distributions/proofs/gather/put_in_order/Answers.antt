use Rattle.std.proofs.Common.{rules, arith}
use Rattle.std.proofs.lemmas.List.Sorted.{IsNonDecreasingBy-from_sort_by_key, sum_by-IsPermutation}
use Rattle.game_model.specs.declared.game.Edge.{Edge}
use Rattle.distributions.proofs.Gathering.{gives, StandFrom-places}
use Rattle.distributions.proofs.gather.put_in_order.Goals as goal

pub returns-clause-standing : goal.returns-clause-standing
returns-clause-standing c =
    StandFrom-places 0 c.sort_by_key.new.self.items (λ i d h. omega arith)
    (IsNonDecreasingBy-from_sort_by_key (λ (e : Edge). e.to) _ c.in_ok-sort_by_key.ensures.sorted
    (λ a r q k. search rules))

pub returns-clause-weights : goal.returns-clause-weights
returns-clause-weights c = λ to. sum_by-IsPermutation (gives to) _ _ c.in_ok-sort_by_key.ensures.permutation

pub returns-clause-total : goal.returns-clause-total
returns-clause-total c = sum_by-IsPermutation (λ (e : Edge). e.weight) _ _ c.in_ok-sort_by_key.ensures.permutation
