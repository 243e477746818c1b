use Rattle.std.proofs.Common.{rules}
use Rattle.std.proofs.lemmas.Result.{IfOk-weaker}
use Rattle.predecessors.proofs.Flagged.{AreAnswers-say}
use Rattle.away_ranks.proofs.left.leaving_choices.Goals as goal

pub returns : goal.returns
returns c = IfOk-weaker c.of_game.result _ _
    (λ flags answered. AreAnswers-say c.args.question.now.game c.game.result.now _ _ flags c.game.ensures answered
    (λ s choice b inside within answer. search rules)) c.of_game.ensures
