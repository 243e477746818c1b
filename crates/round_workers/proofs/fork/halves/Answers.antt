use Rattle.std.proofs.Common.{ap, sym, ◌∙◌, List, subst}
use Rattle.game_model.specs.Game.{Distribution}
use Rattle.game_model.specs.Query.{Query}
use Rattle.round_workers.specs.inside.WorkerRanges.{IsWorkerRange, AreHalves}
use Rattle.round_workers.proofs.fork.halves.Goals as goal

pub halves-requires-clause-range : goal.halves-requires-clause-range
halves-requires-clause-range g c =
    subst (λ (game : List (List Distribution)). IsWorkerRange game c.args.range)
    (sym (c.game.ensures ∙ ap (λ (q : Query). q.game) c.question.ensures)) c.requires.range

pub returns : goal.returns
returns g c =
    subst (λ (game : List (List Distribution)). AreHalves game c.args.range c.halves.result.0 c.halves.result.1)
    (c.game.ensures ∙ ap (λ (q : Query). q.game) c.question.ensures) c.halves.ensures
