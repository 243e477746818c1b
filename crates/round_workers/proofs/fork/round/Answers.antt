use Rattle.std.proofs.Common.{◌≡◌, ap, ◌∙◌, List, length, subst, arith}
use Rattle.game_model.specs.Game.{Distribution}
use Rattle.game_model.specs.Query.{Query, states}
use Rattle.round_workers.specs.inside.WorkerRanges.{IsWorkerRange}
use Rattle.round_workers.proofs.fork.round.Goals as goal

pub fork-requires-clause-range : goal.fork-requires-clause-range
fork-requires-clause-range g c κs within =
    subst (λ (game : List (List Distribution)). IsWorkerRange game c.all-range.result)
    (c.game.ensures ∙ ap (λ (q : Query). q.game) c.question.ensures) c.all-range.ensures.range

pub returns-clause-step : goal.returns-clause-step
returns-clause-step g c s inside marked =
    let high : c.all-range.result.high ≡ states g.P.Posing.posed =
    c.all-range.ensures.high ∙ ap length c.game.ensures ∙ ap (λ (q : Query). length q.game) c.question.ensures in
    let low = c.all-range.ensures.low in
    c.fork.ensures.step s (omega arith) (omega arith) marked

pub returns-clause-few : goal.returns-clause-few
returns-clause-few g c =
    let high : c.all-range.result.high ≡ states g.P.Posing.posed =
    c.all-range.ensures.high ∙ ap length c.game.ensures ∙ ap (λ (q : Query). length q.game) c.question.ensures in
    let few = c.fork.ensures.few in
    omega arith

pub returns-clause-parts : goal.returns-clause-parts
returns-clause-parts g c enough =
    let count = c.all-range.ensures.count in
    c.fork.ensures.parts (omega (arith, enough))
