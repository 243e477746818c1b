use Rattle.std.proofs.Common.{inl, List, ℕ, Result, subst}
use Rattle.std.proofs.lemmas.Result.{IfOk-at_ok}
use Rattle.game_outside.specs.Outside.{GrowsBy, GrowsByPrefix}
use Rattle.output.specs.declared.answer.Answer.{Answer}
use Rattle.output.specs.Status.{IsAnswer}
use Rattle.reward_inputs.specs.declared.end.RewardEnd.{RewardEnd}
use Rattle.reward_app.specs.Run.{AnswersRewardWords}
use Rattle.reward_app.proofs.Endings.{report_ends, said_ends}
use Rattle.reward_app.proofs.ends.end_run.Goals as goal

pub returns-in-Ok-clause-ends : goal.returns-in-Ok-clause-ends
returns-in-Ok-clause-ends g c = λ words holding taken made.
    let old = g.K.Sink.written c.args.out.now in
    let new = g.K.Sink.written c.say.new.out in
    let answer = c.in-Ok.answer in
    let text = answer.text.items in
    let is = c.deref.ensures.value in
    let report = subst (λ (m : Result Answer RewardEnd). AnswersRewardWords words holding taken m) c.in-Ok.is made in
    let ends = IfOk-at_ok (λ (a : Answer). IsAnswer a.status) c.in-Ok.is c.requires in
    said_ends old new text c.say.result answer.status c.say.ensures.either
    (λ so. subst (λ (t : List ℕ). GrowsBy old new t) is (c.say.ensures.all so))
    (λ so. subst (λ (t : List ℕ). GrowsByPrefix old new t) is (c.say.ensures.fault so).1)
    (report_ends old new text answer.status ends report) (inl (answer.status, report))
