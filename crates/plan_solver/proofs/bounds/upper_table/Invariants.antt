use Rattle.std.proofs.Common.{◌≡◌, length}
use Rattle.game_model.specs.Query.{states}
use Rattle.plan_solver.proofs.bounds.upper_table.Given as goal

abbrev pub invariant-loop : goal.invariant-loop
invariant-loop l = record {
  table : length l.table ≡ states l.input.question.now;
  replies : length l.replies ≡ states l.input.question.now;
}
