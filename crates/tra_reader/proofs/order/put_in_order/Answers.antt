use Rattle.std.proofs.Common.{rules, ◌≡◌, arith}
use Rattle.std.proofs.lemmas.List.Sorted.{IsNonDecreasingBy-from_sort_by_key, All-permutation}
use Rattle.std.proofs.lemmas.Fn.{always_returns_same}
use Rattle.transition_lines.specs.Order.{transition_place, IsWithin}
use Rattle.transition_lines.specs.declared.line.Transition.{Transition}
use Rattle.tra_reader.proofs.Sorting.{same_with, rises_sorted}
use Rattle.tra_reader.proofs.order.put_in_order.Goals as goal

pub returns-clause-rises : goal.returns-clause-rises
returns-clause-rises c = rises_sorted transition_place _
    (IsNonDecreasingBy-from_sort_by_key transition_place _ c.in_ok-sort_by_key.ensures.sorted (λ a r q k. search rules))

pub returns-clause-within : goal.returns-clause-within
returns-clause-within c = λ n all. All-permutation (IsWithin n) _ _ c.in_ok-sort_by_key.ensures.permutation all

pub returns-clause-same : goal.returns-clause-same
returns-clause-same c = λ q.
    let t : Transition = record { source = 0; choice = q; destination = 0; share = record { num = 0; den = 1 } } in
    same_with transition_place _ _ (c.in_ok-sort_by_key.ensures.stable transition_place
    (always_returns_same _ (λ a r. r ≡ transition_place a.0.now) _ (λ a r f k. search rules))) t q (omega arith)
