use Rattle.std.proofs.Common.{◌++◌, take}
use Rattle.game_model.specs.Growing.{IsLonger}
use Rattle.attractors.specs.Search.{moves_into, IsAttractorSearch}
use Rattle.attractors.proofs.attractor.go_back.Given as goal

-- and those moves to this member
abbrev pub invariant-loop-step : goal.invariant-loop-step
invariant-loop-step g l = record {
  longer : IsLonger l.fn.search.order.items l.search.order.items;
  grown : IsAttractorSearch l.question (g.S.Excluded.excluded l.excluded l.question)
      (moves_into l.predecessors (take l.place l.fn.search.order.items) ++ take l.step-index l.step-items)
      l.search.members.items l.search.next_choice.items l.search.order.items;
}
