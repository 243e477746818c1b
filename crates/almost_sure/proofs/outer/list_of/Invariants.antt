use Rattle.std.proofs.Common.{◌≡◌, take}
use Rattle.almost_sure.proofs.outer.list_of.Given as goal

abbrev pub invariant-loop-state : goal.invariant-loop-state
invariant-loop-state l = l.list.items ≡ take l.state l.marks
