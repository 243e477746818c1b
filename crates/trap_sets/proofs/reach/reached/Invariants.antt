use Rattle.std.proofs.Common.{◌≤◌, ◌-◌, length}
use Rattle.trap_sets.specs.inside.OfInternal.{states_of}
use Rattle.trap_sets.specs.inside.Reaching.{IsReaching}
use Rattle.trap_sets.proofs.reach.reached.Given as goal

abbrev pub invariant-loop-place : goal.invariant-loop-place
invariant-loop-place l = record {
  reaching : IsReaching l.internal l.way l.search.marks.items l.search.order.items l.place;
  within : l.place ≤ length l.search.order.items;
}

abbrev pub decreases-loop-place : goal.decreases-loop-place
decreases-loop-place l = states_of l.internal - l.place
