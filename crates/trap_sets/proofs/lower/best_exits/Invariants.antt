use Rattle.std.proofs.Common.{◌≡◌, ◌+◌, length}
use Rattle.std.specs.Prelude.{slice_index}
use Rattle.trap_sets.specs.Exits.{IsBestBefore}
use Rattle.trap_sets.proofs.lower.best_exits.Given as goal

abbrev pub invariant-loop-state : goal.invariant-loop-state
invariant-loop-state l = record {
  many : length l.exits.items ≡ l.sets.count + 1;
  best : IsBestBefore l.upper.question.now (slice_index l.upper.entries.now) l.sets.of.items l.exits.items l.state 0;
}
