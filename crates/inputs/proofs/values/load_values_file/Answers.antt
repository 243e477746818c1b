use Rattle.std.proofs.Common.{◌≡◌, List, ℕ, Some, None, sym, subst}
use Rattle.std.proofs.lemmas.Result.{IfOk-weaker, err_from_is_err_and}
use Rattle.values_reader.specs.Faults.{fault_of}
use Rattle.output.specs.declared.refusal.Refusal.{Refusal}
use Rattle.output.specs.declared.refusal.Text.TheVariants.{Values}
use Rattle.inputs.specs.Questions.{RefusesValuesText}
use Rattle.inputs.proofs.HeldTexts.{text_too_long, text_not_held, text_is_so, of_text}
use Rattle.inputs.proofs.values.load_values_file.Goals as goal

pub returns-in_err-bytes-clause-refused : goal.returns-in_err-bytes-clause-refused
returns-in_err-bytes-clause-refused g c =
    let p = err_from_is_err_and c.from_residual.result c.from_residual.ensures.1 in
    rw (p.1, p.2) (λ refusal is. text_too_long Values c.args.name.now (λ v. v.items) (RefusesValuesText c.args.states)
    (λ source long. long) c.in_err-bytes.ensures.says (cc (is)))

pub returns-in_err-bytes-clause-steadily : goal.returns-in_err-bytes-clause-steadily
returns-in_err-bytes-clause-steadily g c =
    let p = err_from_is_err_and c.from_residual.result c.from_residual.ensures.1 in
    rw (p.1, p.2) (λ is. text_not_held Values c.args.name.now (λ v. v.items) c.in_err-bytes.ensures.says (cc (is)))

pub returns-clause-accepted : goal.returns-clause-accepted
returns-clause-accepted g c =
    IfOk-weaker c.values_in.result _ _ (λ values accepted.
    text_is_so Values c.args.name.now (λ v. v.items) (λ text. fault_of c.args.states text ≡ None)
    c.in_ok-bytes.ensures.says (subst (λ (t : List ℕ). fault_of c.args.states t ≡ None) c.deref.ensures.value accepted))
    c.values_in.ensures.accepted

pub returns-clause-refused : goal.returns-clause-refused
returns-clause-refused g c = λ refusal is.
    let n = c.args.states in
    let r = c.values_in.ensures.refused refusal is in
    of_text (g.H.Shelf.held c.args.shelf.now) c.args.name.now
    (λ text. fault_of n text ≡ Some r.0) (λ source. RefusesValuesText n source refusal)
    (λ source has. subst (λ (s : Refusal). RefusesValuesText n source s) (sym r.1) has)
    (text_is_so Values c.args.name.now (λ v. v.items) (λ text. fault_of n text ≡ Some r.0) c.in_ok-bytes.ensures.says
    (subst (λ (t : List ℕ). fault_of n t ≡ Some r.0) c.deref.ensures.value r.2))
