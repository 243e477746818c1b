use Rattle.std.proofs.Common.{◌≡◌, ℕ, ◌<◌, true, false}
use Rattle.std.specs.Prelude.{slice_index_or}
use Rattle.trap_sets.specs.inside.OfInternal.{IsStepOf, IsInternalOf, LeadsOf}
use Rattle.trap_sets.specs.inside.Reaching.{IsMore}
use Rattle.trap_sets.proofs.reach.Search.go_on.Given as goal

abbrev pub invariant-loop-choice : goal.invariant-loop-choice
invariant-loop-choice l = record {
  more : IsMore (IsStepOf l.internal l.state) l.fn.self.marks.items l.fn.self.order.items l.self.marks.items
      l.self.order.items;
  met : (d t : ℕ) → d < l.choice → IsInternalOf l.internal l.state d → LeadsOf l.internal l.state d t
      → slice_index_or l.self.marks.items t false ≡ true;
}
