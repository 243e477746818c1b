use Rattle.std.proofs.Common.{◌+◌, ◌*◌, length, max}
use Rattle.bounded_rounds.proofs.fork.+halves.Given as goal

abbrev pub decreases-step_chunks : goal.decreases-step_chunks
decreases-step_chunks g l = 4 * length l.next.now

abbrev pub decreases-step_halves : goal.decreases-step_halves
decreases-step_halves g l = 4 * max (length l.front.now) (length l.back.now) + 2

abbrev pub decreases-step_halves-first : goal.decreases-step_halves-first
decreases-step_halves-first g l = 4 * length l.front.now + 1

abbrev pub decreases-step_halves-second : goal.decreases-step_halves-second
decreases-step_halves-second g l = 4 * length l.back.now + 1
