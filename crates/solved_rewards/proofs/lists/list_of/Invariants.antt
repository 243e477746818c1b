use Rattle.std.proofs.Common.{◌≡◌, take}
use Rattle.solved_rewards.proofs.lists.list_of.Given as goal

abbrev pub invariant-loop-state : goal.invariant-loop-state
invariant-loop-state l = l.list.items ≡ take l.state l.marks
