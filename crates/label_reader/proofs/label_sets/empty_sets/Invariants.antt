use Rattle.std.proofs.Common.{◌≡◌, replicate, false}
use Rattle.label_reader.proofs.label_sets.empty_sets.Given as goal

abbrev pub invariant-loop-place : goal.invariant-loop-place
invariant-loop-place l = l.sets.items ≡ replicate l._place (replicate l.states false)
