use Rattle.std.proofs.Common.{◌≡◌}
use Rattle.game_model.specs.Query.{states}
use Rattle.components.proofs.search.Search.run.Given as goal

abbrev pub invariant-loop : goal.invariant-loop
invariant-loop g l = l.self.states ≡ states l.question
