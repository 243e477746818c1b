use Rattle.std.proofs.Common.{◌≡◌, length}
use Rattle.trap_sets.specs.inside.Naming.{IsNaming}
use Rattle.trap_sets.proofs.divide.name_all.Given as goal

abbrev pub invariant-loop-place : goal.invariant-loop-place
invariant-loop-place l = record {
  naming : IsNaming l.part l.names l.class.items l.place;
  room : length l.names ≡ length l.fn.names;
}
