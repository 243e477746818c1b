use Rattle.std.proofs.Common.{◌≡◌, ℕ, ◌<◌, true, false}
use Rattle.std.specs.Prelude.{slice_index, slice_index_or}
use Rattle.trap_sets.specs.inside.OfInternal.{IsStepOf}
use Rattle.trap_sets.specs.inside.Reaching.{IsMore}
use Rattle.trap_sets.proofs.reach.Search.follow.Given as goal

abbrev pub invariant-loop-to : goal.invariant-loop-to
invariant-loop-to l = record {
  more : IsMore (IsStepOf l.internal l.fn.step.state) l.fn.self.marks.items l.fn.self.order.items l.self.marks.items
      l.self.order.items;
  met : (k : ℕ) → k < l.to-index → slice_index_or l.self.marks.items (slice_index l.to-items k) false ≡ true;
}
