use Rattle.std.proofs.Common.{◌≡◌, vec_len}
use Rattle.game_model.specs.Query.{states}
use Rattle.solved_rewards.proofs.ends.EndSearch.of_goals.Given as goal

abbrev pub invariant-loop-state : goal.invariant-loop-state
invariant-loop-state l = vec_len l.ranks ≡ states l.question
