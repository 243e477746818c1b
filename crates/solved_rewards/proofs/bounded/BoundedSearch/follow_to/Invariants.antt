use Rattle.std.proofs.Common.{◌≡◌, vec_len}
use Rattle.solved_rewards.proofs.bounded.BoundedSearch.follow_to.Given as goal

abbrev pub invariant-loop-step : goal.invariant-loop-step
invariant-loop-step l = vec_len l.self.bounded ≡ vec_len l.initial.self.bounded
