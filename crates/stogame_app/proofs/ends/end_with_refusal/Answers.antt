use Rattle.std.proofs.Common.{◌∙◌, inl, inr, List, ℕ, refl, subst, sym}
use Rattle.game_outside.specs.Outside.{GrowsBy, GrowsByPrefix}
use Rattle.output.specs.Refusals.{refusal_text}
use Rattle.output.specs.declared.status.Status.{Status}
use Rattle.stogame_app.specs.Status.{refused_status}
use Rattle.stogame_app.specs.Run.{IsEnding}
use Rattle.stogame_app.proofs.Endings.{refusal_ends, said_ends}
use Rattle.stogame_app.proofs.ends.end_with_refusal.Goals as goal

pub returns-in-Ok-clause-ends : goal.returns-in-Ok-clause-ends
returns-in-Ok-clause-ends g c = λ words holding taken refused.
    let old = g.K.Sink.written c.args.out.now in
    let new = g.K.Sink.written c.say.new.out in
    let refusal = c.args.refusal.now in
    let is = c.deref.ensures.value ∙ c.in-Ok.ensures in
    said_ends old new (refusal_text refusal) c.say.result c.refused_status.result c.say.ensures.either
    (λ so. subst (λ (t : List ℕ). GrowsBy old new t) is (c.say.ensures.all so))
    (λ so. subst (λ (t : List ℕ). GrowsByPrefix old new t) is (c.say.ensures.fault so).1)
    (λ grows. subst (λ (s : Status). IsEnding words holding taken old new s) (sym c.refused_status.ensures)
    (refusal_ends old new refusal refused c.invariant.ensures grows))
    (inr (inl (
      refused_status refusal,
      record { refusal = refusal; refused = refused; in_full = c.invariant.ensures; line = refl; ends = refl },
    )))
