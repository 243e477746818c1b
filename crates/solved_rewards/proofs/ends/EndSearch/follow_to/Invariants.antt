use Rattle.std.proofs.Common.{◌≡◌, vec_len}
use Rattle.solved_rewards.proofs.ends.EndSearch.follow_to.Given as goal

abbrev pub invariant-loop-step : goal.invariant-loop-step
invariant-loop-step l = vec_len l.self.ranks ≡ vec_len l.initial.self.ranks
