use Rattle.std.proofs.Common.{◌≡◌, ◌*◌, ◌-◌, ◌^◌, ◌≤◌}
use Rattle.fractions.proofs.lowest.without.Given as goal

abbrev pub invariant-loop-left : goal.invariant-loop-left
invariant-loop-left l = record { value : l.number ≡ l.rest * l.factor ^ (l.most - l.left); left : l.left ≤ l.most }

abbrev pub decreases-loop-left : goal.decreases-loop-left
decreases-loop-left l = l.left
