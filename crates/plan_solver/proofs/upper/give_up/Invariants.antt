use Rattle.std.proofs.Common.{◌≡◌, length}
use Rattle.game_model.specs.Query.{states}
use Rattle.plan_solver.proofs.upper.give_up.Given as goal

abbrev pub invariant-loop-place : goal.invariant-loop-place
invariant-loop-place l = length l.upper ≡ states l.input.question.now
