use Rattle.std.specs.Prelude.{slice_index}
use Rattle.trap_sets.specs.inside.Each.{IsEach}
use Rattle.trap_sets.specs.inside.Naming.{IsClass}
use Rattle.trap_sets.proofs.internal.Internal.divided.Given as goal

abbrev pub invariant-loop-place : goal.invariant-loop-place
invariant-loop-place l =
    IsEach (λ s. IsClass (slice_index l.self.part.now s) (slice_index l.component.items s)) l.class.items l.place
