use Rattle.std.proofs.Common.{◌≡◌, vec_len}
use Rattle.components.proofs.search.Search.close.Given as goal

abbrev pub invariant-loop-member : goal.invariant-loop-member
invariant-loop-member l = l.self.states ≡ l.initial.self.states

abbrev pub decreases-loop-member : goal.decreases-loop-member
decreases-loop-member l = vec_len l.self.waiting
