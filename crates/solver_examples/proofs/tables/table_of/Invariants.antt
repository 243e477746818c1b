use Rattle.std.proofs.Common.{◌≡◌, length}
use Rattle.game_model.specs.Query.{states}
use Rattle.solver_examples.proofs.tables.table_of.Given as goal

abbrev pub invariant-loop-component : goal.invariant-loop-component
invariant-loop-component l = length l.table ≡ states l.question
