use Rattle.std.proofs.Common.{◌≡◌, vec_len}
use Rattle.solved_rewards.proofs.bounded.BoundedSearch.begin.Given as goal

abbrev pub invariant-loop-state : goal.invariant-loop-state
invariant-loop-state l = vec_len l.bounded ≡ l.state
