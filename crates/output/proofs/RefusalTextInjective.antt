-- A line of a refusal says which refusal it is.
use Rattle.std.proofs.Common.{◌≡◌, ◌∙◌, ℕ, List, ◌∷◌, ◌++◌, get_or, refl, sym, ap, arith}
use Rattle.std.specs.Prelude.{◌==◌, if◌then◌else◌, codes, decimal}
use Rattle.std.proofs.lemmas.List.{append_cancel_left, append_cancel_right}
use Rattle.transition_lines.specs.declared.fault.TraCause.{TraCause}
use Rattle.transition_lines.specs.declared.fault.TraFault.{TraFault}
use Rattle.label_lines.specs.declared.faults.LabCause.{LabCause}
use Rattle.label_lines.specs.declared.faults.LabFault.{LabFault}
use Rattle.values_reader.specs.declared.fault.ValuesCause.{ValuesCause}
use Rattle.values_reader.specs.declared.fault.ValuesFault.{ValuesFault}
use Rattle.formula_tokens.specs.declared.fault.FormulaCause.{FormulaCause}
use Rattle.formula_tokens.specs.declared.fault.FormulaFault.{FormulaFault}
use Rattle.plan_text.specs.declared.fault.PlanCause.{PlanCause}
use Rattle.plan_text.specs.declared.fault.PlanFault.{PlanFault}
use Rattle.inductive_check.specs.declared.upper.UpperCause.{UpperCause}
use Rattle.inductive_check.specs.declared.upper.UpperFault.{UpperFault}
use Rattle.rank_certificate.specs.declared.check.RankCause.{RankCause}
use Rattle.rank_certificate.specs.declared.check.RankFault.{RankFault}
use Rattle.certificate_audit.specs.declared.fault.AuditFault.{AuditFault}
use Rattle.certificate_audit.specs.declared.fault.AuditFault.TheVariants as audit
use Rattle.output.specs.declared.refusal.Text.{Text}
use Rattle.output.specs.declared.refusal.Text.TheVariants.{Tra, Lab, Own, Cert, Values}
use Rattle.output.specs.declared.refusal.Refusal.{Refusal}
use Rattle.output.specs.declared.refusal.Refusal.TheVariants.{OfTra, OfLab, OfOwn, OfFormula, OfQuestion}
use Rattle.output.specs.declared.refusal.Refusal.TheVariants.{WrongKind, OfCertificate, OfValues, TooLong}
use Rattle.output.specs.Refusals.{refused_line, certificate_refused, refusal_text, question_line, question_text}
use Rattle.output.specs.Refusals.{plan_cause_text, upper_text, ranks_text}
use Rattle.output.specs.Printable.{IsPrintable, CertificatePrintable, RefusalPrintable}
use Rattle.verdicts.proofs.Numbers.{number-one}
use Rattle.output.proofs.Labelled.{at}
use Rattle.output.proofs.CauseTextInjective.{tra-one, lab-one, values-one, values-not_long, formula-one, question-one}
use Rattle.output.proofs.CauseTextInjective.{question-not_kind, tra-not_long, lab-not_long, plan_cause-one, upper-one}
use Rattle.output.proofs.CauseTextInjective.{ranks-one, plan_cause-not_upper, plan_cause-not_ranks, upper-not_ranks}
use Rattle.output.proofs.CauseTextInjective.{plan_cause-not_long, upper-not_long, ranks-not_long}

-- a number, and a cause to the end of the line
numbered_cause-one : (m n : ℕ) (cause other : List ℕ) → IsPrintable m → IsPrintable n
    → decimal m ++ 32 ∷ (cause ++ codes "\n") ≡ decimal n ++ 32 ∷ (other ++ codes "\n") → (m ≡ n) × (cause ≡ other)
numbered_cause-one m n cause other hm hn e =
    let parts = number-one m n (cause ++ codes "\n") (other ++ codes "\n") hm hn e in
    (parts.0, append_cancel_right cause other (codes "\n") parts.1)

refused_line-one : (text another : Text) (m n : ℕ) (cause other : List ℕ) → IsPrintable m → IsPrintable n
    → refused_line text m cause ≡ refused_line another n other → (text ≡ another) × (m ≡ n) × (cause ≡ other)
refused_line-one Tra Tra m n cause other hm hn e =
    let parts = numbered_cause-one m n cause other hm hn (append_cancel_left (codes "refused tra line ") _ _ e) in
    (refl, parts.0, parts.1)
refused_line-one Lab Lab m n cause other hm hn e =
    let parts = numbered_cause-one m n cause other hm hn (append_cancel_left (codes "refused lab line ") _ _ e) in
    (refl, parts.0, parts.1)
refused_line-one Own Own m n cause other hm hn e =
    let parts = numbered_cause-one m n cause other hm hn (append_cancel_left (codes "refused own line ") _ _ e) in
    (refl, parts.0, parts.1)
refused_line-one Cert Cert m n cause other hm hn e =
    let parts = numbered_cause-one m n cause other hm hn (append_cancel_left (codes "refused cert line ") _ _ e) in
    (refl, parts.0, parts.1)
refused_line-one Values Values m n cause other hm hn e =
    let parts = numbered_cause-one m n cause other hm hn (append_cancel_left (codes "refused values line ") _ _ e) in
    (refl, parts.0, parts.1)
refused_line-one text another m n cause other hm hn e = absurd (omega (arith, at e 8))

-- 1. The line of a certificate.

upper_fault : (fault other : UpperFault) → fault.state ≡ other.state → fault.cause ≡ other.cause → fault ≡ other
upper_fault fault other state cause =
    let made : ℕ → UpperCause → UpperFault = λ s c. record { state = s; cause = c } in
    ap (λ s. made s fault.cause) state ∙ ap (λ c. made other.state c) cause

rank_fault : (fault other : RankFault) → fault.state ≡ other.state → fault.cause ≡ other.cause → fault ≡ other
rank_fault fault other state cause =
    let made : ℕ → RankCause → RankFault = λ s c. record { state = s; cause = c } in
    ap (λ s. made s fault.cause) state ∙ ap (λ c. made other.state c) cause

plan_fault : (fault other : PlanFault) → fault.line ≡ other.line → fault.cause ≡ other.cause → fault ≡ other
plan_fault fault other line cause =
    let made : ℕ → PlanCause → PlanFault = λ l c. record { line = l; cause = c } in
    ap (λ l. made l fault.cause) line ∙ ap (λ c. made other.line c) cause

-- its number, its cause
abbrev line_of : AuditFault → ℕ
line_of (audit.Text fault) = fault.line
line_of (audit.Upper fault) = 0
line_of (audit.Ranks fault) = 0

abbrev cause_of : AuditFault → List ℕ
cause_of (audit.Text fault) = plan_cause_text fault.cause
cause_of (audit.Upper fault) = upper_text fault.state fault.cause
cause_of (audit.Ranks fault) = ranks_text fault.state fault.cause

line_in_full : (fault : AuditFault) → CertificatePrintable fault → IsPrintable (line_of fault)
line_in_full (audit.Text fault) h = h
line_in_full (audit.Upper fault) h = omega arith
line_in_full (audit.Ranks fault) h = omega arith

in_parts : (fault : AuditFault) → certificate_refused fault ≡ refused_line Cert (line_of fault) (cause_of fault)
in_parts (audit.Text fault) = refl
in_parts (audit.Upper fault) = refl
in_parts (audit.Ranks fault) = refl

-- the same number and the same cause
fault-one : (a b : AuditFault) → CertificatePrintable a → CertificatePrintable b → line_of a ≡ line_of b
    → cause_of a ≡ cause_of b → a ≡ b
fault-one (audit.Text fault) (audit.Text other) ha hb line cause =
    ap (λ (f : PlanFault). audit.Text f) (plan_fault fault other line (plan_cause-one fault.cause other.cause cause))
fault-one (audit.Text fault) (audit.Upper other) ha hb line cause =
    absurd (plan_cause-not_upper fault.cause other.state other.cause cause)
fault-one (audit.Text fault) (audit.Ranks other) ha hb line cause =
    absurd (plan_cause-not_ranks fault.cause other.state other.cause cause)
fault-one (audit.Upper fault) (audit.Text other) ha hb line cause =
    absurd (plan_cause-not_upper other.cause fault.state fault.cause (sym cause))
fault-one (audit.Upper fault) (audit.Upper other) ha hb line cause =
    let same = upper-one fault.state other.state fault.cause other.cause ha.0 hb.0 ha.1 hb.1 cause in
    ap (λ (f : UpperFault). audit.Upper f) (upper_fault fault other same.0 same.1)
fault-one (audit.Upper fault) (audit.Ranks other) ha hb line cause =
    absurd (upper-not_ranks fault.state other.state fault.cause other.cause cause)
fault-one (audit.Ranks fault) (audit.Text other) ha hb line cause =
    absurd (plan_cause-not_ranks other.cause fault.state fault.cause (sym cause))
fault-one (audit.Ranks fault) (audit.Upper other) ha hb line cause =
    absurd (upper-not_ranks other.state fault.state other.cause fault.cause (sym cause))
fault-one (audit.Ranks fault) (audit.Ranks other) ha hb line cause =
    let same = ranks-one fault.state other.state fault.cause other.cause ha.0 hb.0 ha.1 hb.1 cause in
    ap (λ (f : RankFault). audit.Ranks f) (rank_fault fault other same.0 same.1)

certificate-one : (a b : AuditFault) → CertificatePrintable a → CertificatePrintable b
    → certificate_refused a ≡ certificate_refused b → a ≡ b
certificate-one a b ha hb e =
    let parts = refused_line-one Cert Cert (line_of a) (line_of b) (cause_of a) (cause_of b) (line_in_full a ha)
    (line_in_full b hb) (sym (in_parts a) ∙ e ∙ in_parts b) in
    fault-one a b ha hb parts.1 parts.2

-- it is the line of no other text
not_certificate : (text : Text) (line : ℕ) (cause : List ℕ) (fault : AuditFault) → (text ≡ Cert → ⊥) → IsPrintable line
    → CertificatePrintable fault → refused_line text line cause ≡ certificate_refused fault → ⊥
not_certificate text line cause fault other hl hf e =
    let parts = refused_line-one text Cert line (line_of fault) cause (cause_of fault) hl (line_in_full fault hf)
    (e ∙ in_parts fault) in
    other parts.0

cause-not_long : (fault : AuditFault) → cause_of fault ≡ codes "TooLong" → ⊥
cause-not_long (audit.Text fault) e = plan_cause-not_long fault.cause e
cause-not_long (audit.Upper fault) e = upper-not_long fault.state fault.cause e
cause-not_long (audit.Ranks fault) e = ranks-not_long fault.state fault.cause e

-- nor that it is too long
certificate-not_long : (fault : AuditFault) (text : Text) → CertificatePrintable fault
    → certificate_refused fault ≡ refused_line text 0 (codes "TooLong") → ⊥
certificate-not_long fault text hf e =
    let parts = refused_line-one Cert text (line_of fault) 0 (cause_of fault) (codes "TooLong") (line_in_full fault hf)
    (omega arith) (sym (in_parts fault) ∙ e) in
    cause-not_long fault parts.2

-- 2. Every line.

-- whether a line is of a file, of the formula or of the question
kind_read : List ℕ → ℕ
kind_read line = if get_or line 8 0 == 102 then 1 else (if get_or line 8 0 == 113 then 2 else 0)

abbrev kind_of : Refusal → ℕ
kind_of (OfFormula fault) = 1
kind_of (OfQuestion fault) = 2
kind_of WrongKind = 2
kind_of refusal = 0

kind_read-line : (refusal : Refusal) → kind_read (refusal_text refusal) ≡ kind_of refusal
unfolding kind_read
kind_read-line (TooLong Tra) = refl
kind_read-line (OfCertificate (audit.Text fault)) = refl
kind_read-line refusal = refl

tra_fault : (fault other : TraFault) → fault.line ≡ other.line → fault.cause ≡ other.cause → fault ≡ other
tra_fault fault other line cause =
    let made : ℕ → TraCause → TraFault = λ l c. record { line = l; cause = c } in
    ap (λ l. made l fault.cause) line ∙ ap (λ c. made other.line c) cause

lab_fault : (fault other : LabFault) → fault.line ≡ other.line → fault.cause ≡ other.cause → fault ≡ other
lab_fault fault other line cause =
    let made : ℕ → LabCause → LabFault = λ l c. record { line = l; cause = c } in
    ap (λ l. made l fault.cause) line ∙ ap (λ c. made other.line c) cause

values_fault : (fault other : ValuesFault) → fault.line ≡ other.line → fault.cause ≡ other.cause → fault ≡ other
values_fault fault other line cause =
    let made : ℕ → ValuesCause → ValuesFault = λ l c. record { line = l; cause = c } in
    ap (λ l. made l fault.cause) line ∙ ap (λ c. made other.line c) cause

formula_fault : (fault other : FormulaFault) → fault.place ≡ other.place → fault.cause ≡ other.cause → fault ≡ other
formula_fault fault other place cause =
    let made : ℕ → FormulaCause → FormulaFault = λ l c. record { place = l; cause = c } in
    ap (λ l. made l fault.cause) place ∙ ap (λ c. made other.place c) cause

question_cause-one : (cause other : List ℕ) → question_line cause ≡ question_line other → cause ≡ other
question_cause-one cause other e =
    append_cancel_right cause other (codes "\n") (append_cancel_left (codes "refused question line 0 ") _ _ e)

pub refusal-one : (a b : Refusal) → RefusalPrintable a → RefusalPrintable b → refusal_text a ≡ refusal_text b → a ≡ b
refusal-one (OfTra fault) (OfTra other) ha hb e =
    let parts = refused_line-one Tra Tra fault.line other.line _ _ ha.0 hb.0 e in
    ap OfTra (tra_fault fault other parts.1 (tra-one fault.cause other.cause ha.1 hb.1 parts.2))
refusal-one (OfLab fault) (OfLab other) ha hb e =
    let parts = refused_line-one Lab Lab fault.line other.line _ _ ha.0 hb.0 e in
    ap OfLab (lab_fault fault other parts.1 (lab-one fault.cause other.cause ha.1 hb.1 parts.2))
refusal-one (OfOwn fault) (OfOwn other) ha hb e =
    let parts = refused_line-one Own Own fault.line other.line _ _ ha.0 hb.0 e in
    ap OfOwn (lab_fault fault other parts.1 (lab-one fault.cause other.cause ha.1 hb.1 parts.2))
refusal-one (OfValues fault) (OfValues other) ha hb e =
    let parts = refused_line-one Values Values fault.line other.line _ _ ha hb e in
    ap OfValues (values_fault fault other parts.1 (values-one fault.cause other.cause parts.2))
refusal-one (TooLong text) (TooLong another) ha hb e =
    ap TooLong (refused_line-one text another 0 0 (codes "TooLong") (codes "TooLong") (omega arith) (omega arith) e).0
refusal-one (OfTra fault) (TooLong text) ha hb e =
    absurd (tra-not_long fault.cause (refused_line-one Tra text fault.line 0 _ _ ha.0 (omega arith) e).2)
refusal-one (OfLab fault) (TooLong text) ha hb e =
    absurd (lab-not_long fault.cause (refused_line-one Lab text fault.line 0 _ _ ha.0 (omega arith) e).2)
refusal-one (OfOwn fault) (TooLong text) ha hb e =
    absurd (lab-not_long fault.cause (refused_line-one Own text fault.line 0 _ _ ha.0 (omega arith) e).2)
refusal-one (OfValues fault) (TooLong text) ha hb e =
    absurd (values-not_long fault.cause (refused_line-one Values text fault.line 0 _ _ ha (omega arith) e).2)
refusal-one (TooLong text) (OfTra fault) ha hb e =
    absurd (tra-not_long fault.cause (sym (refused_line-one text Tra 0 fault.line _ _ (omega arith) hb.0 e).2))
refusal-one (TooLong text) (OfLab fault) ha hb e =
    absurd (lab-not_long fault.cause (sym (refused_line-one text Lab 0 fault.line _ _ (omega arith) hb.0 e).2))
refusal-one (TooLong text) (OfOwn fault) ha hb e =
    absurd (lab-not_long fault.cause (sym (refused_line-one text Own 0 fault.line _ _ (omega arith) hb.0 e).2))
refusal-one (TooLong text) (OfValues fault) ha hb e =
    absurd (values-not_long fault.cause (sym (refused_line-one text Values 0 fault.line _ _ (omega arith) hb e).2))
refusal-one (OfCertificate fault) (OfCertificate other) ha hb e = ap OfCertificate (certificate-one fault other ha hb e)
refusal-one (OfCertificate fault) (TooLong text) ha hb e = absurd (certificate-not_long fault text ha e)
refusal-one (TooLong text) (OfCertificate fault) ha hb e = absurd (certificate-not_long fault text hb (sym e))
refusal-one (OfTra fault) (OfCertificate other) ha hb e =
    absurd (not_certificate Tra fault.line _ other (λ is. cc (is)) ha.0 hb e)
refusal-one (OfLab fault) (OfCertificate other) ha hb e =
    absurd (not_certificate Lab fault.line _ other (λ is. cc (is)) ha.0 hb e)
refusal-one (OfOwn fault) (OfCertificate other) ha hb e =
    absurd (not_certificate Own fault.line _ other (λ is. cc (is)) ha.0 hb e)
refusal-one (OfValues fault) (OfCertificate other) ha hb e =
    absurd (not_certificate Values fault.line _ other (λ is. cc (is)) ha hb e)
refusal-one (OfCertificate other) (OfValues fault) ha hb e =
    absurd (not_certificate Values fault.line _ other (λ is. cc (is)) hb ha (sym e))
refusal-one (OfCertificate other) (OfTra fault) ha hb e =
    absurd (not_certificate Tra fault.line _ other (λ is. cc (is)) hb.0 ha (sym e))
refusal-one (OfCertificate other) (OfLab fault) ha hb e =
    absurd (not_certificate Lab fault.line _ other (λ is. cc (is)) hb.0 ha (sym e))
refusal-one (OfCertificate other) (OfOwn fault) ha hb e =
    absurd (not_certificate Own fault.line _ other (λ is. cc (is)) hb.0 ha (sym e))
refusal-one (OfFormula fault) (OfFormula other) ha hb e =
    let parts =
    numbered_cause-one fault.place other.place _ _ ha hb (append_cancel_left (codes "refused formula place ") _ _ e) in
    ap OfFormula (formula_fault fault other parts.0 (formula-one fault.cause other.cause parts.1))
refusal-one (OfQuestion fault) (OfQuestion other) ha hb e =
    ap OfQuestion (question-one fault other (question_cause-one (question_text fault) (question_text other) e))
refusal-one WrongKind WrongKind ha hb e = refl
refusal-one (OfQuestion fault) WrongKind ha hb e =
    absurd (question-not_kind fault (question_cause-one (question_text fault) (codes "WrongKind") e))
refusal-one WrongKind (OfQuestion fault) ha hb e =
    absurd (question-not_kind fault (question_cause-one (question_text fault) (codes "WrongKind") (sym e)))
refusal-one a b ha hb e =
    let kind : kind_of a ≡ kind_of b = sym (kind_read-line a) ∙ ap kind_read e ∙ kind_read-line b in
    absurd (omega (arith, kind, at e 8))
