use Rattle.std.proofs.Common.{◌≡◌, length}
use Rattle.game_model.specs.Query.{states}
use Rattle.plan_solver.proofs.bounds.upper_turn.Given as goal

abbrev pub invariant-loop-component : goal.invariant-loop-component
invariant-loop-component l = record {
  table : length l.table ≡ states l.input.question.now;
  replies : length l.replies ≡ states l.input.question.now;
}
