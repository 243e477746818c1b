use Rattle.std.proofs.Common.{◌≤◌, ◌-◌, length, take}
use Rattle.game_model.specs.Query.{states}
use Rattle.attractors.specs.Search.{moves_into, IsAttractorSearch}
use Rattle.attractors.proofs.attractor.attractor_of.Given as goal

-- the moves to the members so far were followed
abbrev pub invariant-loop-place : goal.invariant-loop-place
invariant-loop-place g l = record {
  within : l.place ≤ length l.search.order.items;
  grown : IsAttractorSearch l.question (g.S.Excluded.excluded l.excluded l.question)
      (moves_into l.predecessors (take l.place l.search.order.items)) l.search.members.items l.search.next_choice.items
      l.search.order.items;
}

abbrev pub decreases-loop-place : goal.decreases-loop-place
decreases-loop-place g l = states l.question - l.place
