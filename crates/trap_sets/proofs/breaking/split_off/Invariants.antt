use Rattle.std.proofs.Common.{◌≡◌, ◌+◌}
use Rattle.std.specs.Prelude.{slice_index}
use Rattle.trap_sets.specs.inside.Breaking.{IsSplit}
use Rattle.trap_sets.proofs.breaking.split_off.Given as goal

abbrev pub invariant-loop-place : goal.invariant-loop-place
invariant-loop-place l = record {
  own : l.own ≡ slice_index l.fn.part l.state;
  split : IsSplit l.fn.part l.marks (slice_index l.fn.part l.state) (l.state + 1) l.place l.part;
}
