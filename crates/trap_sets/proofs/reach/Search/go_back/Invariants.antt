use Rattle.std.proofs.Common.{◌≡◌, take, true, false}
use Rattle.std.specs.Prelude.{slice_index_or, All}
use Rattle.predecessors.specs.declared.lists.Move.{Move}
use Rattle.trap_sets.specs.inside.OfInternal.{IsStepOf, IsInternalOf}
use Rattle.trap_sets.specs.inside.Reaching.{IsMore}
use Rattle.trap_sets.proofs.reach.Search.go_back.Given as goal

abbrev pub invariant-loop-step : goal.invariant-loop-step
invariant-loop-step l = record {
  more : IsMore (λ s. IsStepOf l.internal s l.state) l.fn.self.marks.items l.fn.self.order.items l.self.marks.items
      l.self.order.items;
  met : All (λ (m : Move). IsInternalOf l.internal m.state m.choice
      → slice_index_or l.self.marks.items m.state false ≡ true)
      (take l.step-index l.step-items);
}
