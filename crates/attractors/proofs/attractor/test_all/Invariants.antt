use Rattle.std.proofs.Common.{[]}
use Rattle.game_model.specs.Growing.{IsLonger}
use Rattle.attractors.specs.Search.{IsAttractorSearch, IsLarger, AreTested}
use Rattle.attractors.proofs.attractor.test_all.Given as goal

-- the states so far were tested
abbrev pub invariant-loop-state : goal.invariant-loop-state
invariant-loop-state g l = record {
  longer : IsLonger l.fn.search.order.items l.search.order.items;
  larger : IsLarger l.fn.search.members.items l.search.members.items;
  grown : IsAttractorSearch l.question (g.S.Excluded.excluded l.excluded l.question)
      [] l.search.members.items l.search.next_choice.items
      l.search.order.items;
  tested : AreTested l.question
      (g.S.Excluded.excluded l.excluded l.question) l.fn.search.members.items l.search.members.items
      l.search.next_choice.items l.state;
}
