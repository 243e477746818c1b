use Rattle.std.proofs.Common.{◌≡◌, ℕ, ◌<◌}
use Rattle.std.specs.Prelude.{slice_index}
use Rattle.trap_sets.proofs.choices.stays.Given as goal

abbrev pub invariant-loop-to : goal.invariant-loop-to
invariant-loop-to l = (k : ℕ) → k < l.to-index → slice_index l.of (slice_index l.to-items k) ≡ slice_index l.of l.state
