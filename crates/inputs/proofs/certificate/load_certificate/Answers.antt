use Rattle.std.proofs.Common.{List, ℕ, sym, subst}
use Rattle.std.proofs.lemmas.Result.{IfOk-weaker, err_from_is_err_and}
use Rattle.certificate_audit.specs.Accepted.{IsAccepted}
use Rattle.certificate_audit.specs.Refused.{IsRefused}
use Rattle.output.specs.declared.refusal.Refusal.{Refusal}
use Rattle.output.specs.declared.refusal.Text.TheVariants.{Cert}
use Rattle.inputs.specs.Questions.{RefusesCertificate}
use Rattle.inputs.proofs.HeldTexts.{text_too_long, text_not_held, text_is_so, of_text}
use Rattle.inputs.proofs.certificate.load_certificate.Goals as goal

pub returns-in_err-bytes-clause-refused : goal.returns-in_err-bytes-clause-refused
returns-in_err-bytes-clause-refused g c =
    let p = err_from_is_err_and c.from_residual.result c.from_residual.ensures.1 in
    rw (p.1, p.2) (λ refusal is. text_too_long Cert c.args.name.now (λ v. v.items)
    (RefusesCertificate c.args.question.now) (λ source long. long) c.in_err-bytes.ensures.says (cc (is)))

pub returns-in_err-bytes-clause-steadily : goal.returns-in_err-bytes-clause-steadily
returns-in_err-bytes-clause-steadily g c =
    let p = err_from_is_err_and c.from_residual.result c.from_residual.ensures.1 in
    rw (p.1, p.2) (λ is. text_not_held Cert c.args.name.now (λ v. v.items) c.in_err-bytes.ensures.says (cc (is)))

pub returns-clause-accepted : goal.returns-clause-accepted
returns-clause-accepted g c =
    IfOk-weaker c.certificate_in.result _ _ (λ plan accepted.
    text_is_so Cert c.args.name.now (λ v. v.items)
    (λ text. IsAccepted c.args.question.now text plan) c.in_ok-bytes.ensures.says
    (subst (λ (t : List ℕ). IsAccepted c.args.question.now t plan) c.deref.ensures.value accepted))
    c.certificate_in.ensures.accepted

pub returns-clause-refused : goal.returns-clause-refused
returns-clause-refused g c = λ refusal is.
    let q = c.args.question.now in
    let r = c.certificate_in.ensures.refused refusal is in
    of_text (g.H.Shelf.held c.args.shelf.now) c.args.name.now
    (λ text. IsRefused q text r.0) (λ source. RefusesCertificate q source refusal)
    (λ source has. subst (λ (s : Refusal). RefusesCertificate q source s) (sym r.1) has)
    (text_is_so Cert c.args.name.now (λ v. v.items) (λ text. IsRefused q text r.0) c.in_ok-bytes.ensures.says
    (subst (λ (t : List ℕ). IsRefused q t r.0) c.deref.ensures.value r.2))
