use Rattle.std.proofs.Common.{List, ℕ, sym, subst}
use Rattle.std.proofs.lemmas.Result.{IfOk-weaker, err_from_is_err_and}
use Rattle.output.specs.declared.refusal.Text.TheVariants.{Cert}
use Rattle.inputs.specs.Sources.{SourceWith}
use Rattle.inputs.proofs.HeldTexts.{text_too_long, text_not_held, text_is_so, of_text}
use Rattle.reward_units.specs.Rounded.{exact_in}
use Rattle.reward_audit.specs.declared.audited.AuditedRewards.{AuditedRewards}
use Rattle.reward_audit.specs.Accepted.{IsAcceptedText}
use Rattle.reward_audit.specs.Audited.{audited_certificate}
use Rattle.reward_audit.specs.Refused.{IsRefused}
use Rattle.reward_refusals.specs.declared.refusal.RewardRefusal.{RewardRefusal}
use Rattle.reward_refusals.specs.declared.refusal.RewardRefusal.TheVariants.{Shared}
use Rattle.reward_inputs.proofs.Ends.{refused_shared, fault_shared}
use Rattle.reward_inputs.proofs.Leaving.{of_end, shared_leaves}
use Rattle.reward_app.specs.Reports.{RefusesOver}
use Rattle.reward_app.proofs.Certified.{refuses_of, text_caused, text_leaves}
use Rattle.reward_app.proofs.certificate.load_certificate.Goals as goal

pub returns-in_err-bytes-clause-refused : goal.returns-in_err-bytes-clause-refused
returns-in_err-bytes-clause-refused g c =
    let q = c.args.question.now in
    let exact = exact_in q.game c.args.rewards.now in
    let name = c.args.name.now in
    let p = err_from_is_err_and c.from_residual.result c.from_residual.ensures.1 in
    rw (p.1, p.2) (λ refusal is.
    let r = refused_shared _ refusal (of_end _ _ is) in
    subst (λ (x : RewardRefusal).
    SourceWith (g.H.Shelf.held c.args.shelf.now) name (λ source. RefusesOver q exact source x)) r.2
    (text_too_long Cert name (λ v. v.items) (λ source s. RefusesOver q exact source (Shared s)) (λ source long. long)
    c.in_err-bytes.ensures.says r.1))

pub returns-in_err-bytes-clause-steadily : goal.returns-in_err-bytes-clause-steadily
returns-in_err-bytes-clause-steadily g c =
    let p = err_from_is_err_and c.from_residual.result c.from_residual.ensures.1 in
    rw (p.1, p.2) (λ is. text_not_held Cert c.args.name.now (λ v. v.items) c.in_err-bytes.ensures.says
    (fault_shared _ (of_end _ _ is)))

pub returns-in_err-bytes-clause-shelf : goal.returns-in_err-bytes-clause-shelf
returns-in_err-bytes-clause-shelf g c =
    let p = err_from_is_err_and c.from_residual.result c.from_residual.ensures.1 in
    rw (p.1, p.2) (shared_leaves _ c.in_err-bytes.ensures.shelf)

pub returns-in_err-bytes-clause-caused : goal.returns-in_err-bytes-clause-caused
returns-in_err-bytes-clause-caused g c =
    let p = err_from_is_err_and c.from_residual.result c.from_residual.ensures.1 in
    rw (p.1, p.2) (text_caused AuditedRewards c.args.name.now (λ v. v.items) _ c.in_err-bytes.ensures.says
    c.in_err-bytes.ensures.caused)

pub returns-clause-accepted : goal.returns-clause-accepted
returns-clause-accepted g c =
    let q = c.args.question.now in
    let exact = exact_in q.game c.args.rewards.now in
    IfOk-weaker c.certificate_in.result _ _ (λ made accepted.
    text_is_so Cert c.args.name.now (λ v. v.items)
    (λ text. IsAcceptedText q exact text made.plan (audited_certificate q made)) c.in_ok-bytes.ensures.says
    (subst (λ (t : List ℕ). IsAcceptedText q exact t made.plan (audited_certificate q made)) c.deref.ensures.value
    accepted)) c.certificate_in.ensures.accepted

pub returns-clause-refused : goal.returns-clause-refused
returns-clause-refused g c = λ refusal is.
    let q = c.args.question.now in
    let exact = exact_in q.game c.args.rewards.now in
    let r = c.certificate_in.ensures.refused refusal is in
    of_text (g.H.Shelf.held c.args.shelf.now) c.args.name.now
    (λ text. IsRefused q exact text r.0) (λ source. RefusesOver q exact source refusal)
    (λ source has. subst (λ (s : RewardRefusal). RefusesOver q exact source s) (sym r.1)
    (refuses_of q exact source r.0 has))
    (text_is_so Cert c.args.name.now (λ v. v.items) (λ text. IsRefused q exact text r.0) c.in_ok-bytes.ensures.says
    (subst (λ (t : List ℕ). IsRefused q exact t r.0) c.deref.ensures.value r.2))

pub returns-clause-shelf : goal.returns-clause-shelf
returns-clause-shelf g c =
    text_leaves c.certificate_in.result c.certificate_in.ensures.nothing c.in_ok-bytes.ensures.shelf

pub returns-clause-steadily : goal.returns-clause-steadily
returns-clause-steadily g c = λ is. absurd (c.certificate_in.ensures.nothing.read is)
