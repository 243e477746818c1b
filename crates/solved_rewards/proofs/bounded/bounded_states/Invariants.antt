use Rattle.std.proofs.Common.{◌≡◌, vec_len}
use Rattle.game_model.specs.Query.{states}
use Rattle.solved_rewards.proofs.bounded.bounded_states.Given as goal

abbrev pub invariant-loop-place : goal.invariant-loop-place
invariant-loop-place l = vec_len l.search.bounded ≡ states l.question
