use Rattle.std.proofs.Common.{◌≡◌}
use Rattle.game_model.specs.Query.{states}
use Rattle.components.proofs.search.Search.of_question.Given as goal

abbrev pub invariant-loop-state : goal.invariant-loop-state
invariant-loop-state g l = l.search.states ≡ states l.question
