use Rattle.std.proofs.Common.{◌∙◌, inr, List, ℕ, refl, subst, sym}
use Rattle.game_outside.specs.Outside.{GrowsBy, GrowsByPrefix}
use Rattle.output.specs.declared.status.Status.{Status}
use Rattle.reward_refusals.specs.Refusals.{reward_refusal_text}
use Rattle.reward_refusals.specs.Status.{reward_status}
use Rattle.reward_app.specs.Run.{IsRewardEnding}
use Rattle.reward_app.proofs.Endings.{refusal_ends, said_ends}
use Rattle.reward_app.proofs.ends.end_with_refusal.Goals as goal

pub returns-in-Ok-clause-ends : goal.returns-in-Ok-clause-ends
returns-in-Ok-clause-ends g c = λ words holding taken refused.
    let old = g.K.Sink.written c.args.out.now in
    let new = g.K.Sink.written c.say.new.out in
    let refusal = c.args.refusal.now in
    let is = c.deref.ensures.value ∙ c.in-Ok.ensures in
    said_ends old new (reward_refusal_text refusal) c.say.result c.status.result c.say.ensures.either
    (λ so. subst (λ (t : List ℕ). GrowsBy old new t) is (c.say.ensures.all so))
    (λ so. subst (λ (t : List ℕ). GrowsByPrefix old new t) is (c.say.ensures.fault so).1)
    (λ grows. subst (λ (s : Status). IsRewardEnding words holding taken old new s) (sym c.status.ensures)
    (refusal_ends old new refusal refused c.invariant.ensures grows))
    (inr (
      reward_status refusal,
      record { refusal = refusal; refused = refused; in_full = c.invariant.ensures; line = refl; ends = refl },
    ))
