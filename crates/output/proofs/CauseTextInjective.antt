-- No two causes have the same words and numbers.
use Rattle.std.proofs.Common.{◌≡◌, ℕ, refl, sym, arith}
use Rattle.std.specs.Prelude.{codes}
use Rattle.std.proofs.lemmas.List.{append_cancel_left}
use Rattle.fractions.specs.declared.number.NumberFault.{NumberFault}
use Rattle.fractions.specs.declared.number.NumberFault.TheVariants as number
use Rattle.distributions.specs.declared.choice.ChoiceFault.{ChoiceFault}
use Rattle.distributions.specs.declared.choice.ChoiceFault.TheVariants as choice
use Rattle.transition_lines.specs.declared.fault.TraCause.{TraCause}
use Rattle.transition_lines.specs.declared.fault.TraCause.TheVariants as tra
use Rattle.label_lines.specs.declared.faults.LabCause.{LabCause}
use Rattle.label_lines.specs.declared.faults.LabCause.TheVariants as lab
use Rattle.formula_tokens.specs.declared.fault.FormulaCause.{FormulaCause}
use Rattle.formula_tokens.specs.declared.fault.FormulaCause.TheVariants as formula
use Rattle.formula_sets.specs.declared.fault.PoseFault.{PoseFault}
use Rattle.formula_sets.specs.declared.fault.PoseFault.TheVariants as question
use Rattle.plan_text.specs.declared.fault.PlanCause.{PlanCause}
use Rattle.plan_text.specs.declared.fault.PlanCause.TheVariants as plan
use Rattle.inductive_check.specs.declared.upper.UpperCause.{UpperCause}
use Rattle.inductive_check.specs.declared.upper.UpperCause.TheVariants as upper
use Rattle.rank_certificate.specs.declared.check.RankCause.{RankCause}
use Rattle.rank_certificate.specs.declared.check.RankCause.TheVariants as ranks
use Rattle.values_reader.specs.declared.fault.ValuesCause.{ValuesCause}
use Rattle.values_reader.specs.declared.fault.ValuesCause.TheVariants as values
use Rattle.output.specs.Refusals.{number_text, choice_text, tra_text, lab_text, values_text, formula_text}
use Rattle.output.specs.Refusals.{question_text, plan_cause_text, upper_text, ranks_text}
use Rattle.output.specs.Printable.{IsPrintable, ArePrintable, ChoicePrintable, TraPrintable, LabPrintable}
use Rattle.output.specs.Printable.{UpperPrintable, RanksPrintable}
use Rattle.output.proofs.Labelled.{at, numbered-one, pair-one, place-onto}

number_fault-one : (a b : NumberFault) → number_text a ≡ number_text b → a ≡ b
number_fault-one number.NotANumber number.NotANumber e = refl
number_fault-one number.TooManyDigits number.TooManyDigits e = refl
number_fault-one number.ZeroDenominator number.ZeroDenominator e = refl
number_fault-one number.TooFine number.TooFine e = refl
number_fault-one number.TooLarge number.TooLarge e = refl
number_fault-one a b e = absurd (omega (arith, at e 3))

pub question-one : (a b : PoseFault) → question_text a ≡ question_text b → a ≡ b
question-one question.OutOfMemory question.OutOfMemory e = refl
question-one (question.UnknownLabel name) (question.UnknownLabel other) e =
    let same : name ≡ other = append_cancel_left (codes "UnknownLabel ") name other e in
    cc
question-one (question.UnknownPlayer name) (question.UnknownPlayer other) e =
    let same : name ≡ other = append_cancel_left (codes "UnknownPlayer ") name other e in
    cc
question-one question.NoInit question.NoInit e = refl
question-one a b e = absurd (omega (arith, at e 0, at e 7))

-- no fault of a question reads as that its path is of the wrong kind
pub question-not_kind : (fault : PoseFault) → question_text fault ≡ codes "WrongKind" → ⊥
question-not_kind question.OutOfMemory e = omega (arith, at e 0)
question-not_kind fault e = omega (arith, at e 0)

pub formula-one : (a b : FormulaCause) → formula_text a ≡ formula_text b → a ≡ b
formula-one formula.OutOfMemory formula.OutOfMemory e = refl
formula-one formula.Unexpected formula.Unexpected e = refl
formula-one formula.End formula.End e = refl
formula-one formula.TooDeep formula.TooDeep e = refl
formula-one (formula.BadNumber fault) (formula.BadNumber other) e =
    let same = number_fault-one fault other (append_cancel_left (codes "BadNumber ") _ _ e) in
    cc
formula-one formula.ThresholdOutOfRange formula.ThresholdOutOfRange e = refl
formula-one formula.TooLong formula.TooLong e = refl
formula-one formula.BadSteps formula.BadSteps e = refl
formula-one formula.AskInside formula.AskInside e = refl
formula-one a b e = absurd (omega (arith, at e 0, at e 3))

pub values-one : (a b : ValuesCause) → values_text a ≡ values_text b → a ≡ b
values-one values.BadField values.BadField e = refl
values-one values.StateOutOfRange values.StateOutOfRange e = refl
values-one values.DoubleState values.DoubleState e = refl
values-one values.LineCount values.LineCount e = refl
values-one a b e = absurd (omega (arith, at e 0))

pub values-not_long : (cause : ValuesCause) → values_text cause ≡ codes "TooLong" → ⊥
values-not_long values.BadField e = omega (arith, at e 0)
values-not_long cause e = omega (arith, at e 0)

pub lab-one : (a b : LabCause) → LabPrintable a → LabPrintable b → lab_text a ≡ lab_text b → a ≡ b
lab-one lab.OutOfMemory lab.OutOfMemory ha hb e = refl
lab-one lab.NoHeader lab.NoHeader ha hb e = refl
lab-one lab.BadHeader lab.BadHeader ha hb e = refl
lab-one lab.DoubleName lab.DoubleName ha hb e = refl
lab-one lab.DoubleIndex lab.DoubleIndex ha hb e = refl
lab-one lab.BadField lab.BadField ha hb e = refl
lab-one lab.StateOutOfRange lab.StateOutOfRange ha hb e = refl
lab-one lab.UnknownIndex lab.UnknownIndex ha hb e = refl
lab-one lab.OverLimit lab.OverLimit ha hb e = refl
lab-one (lab.TwoOwners state) (lab.TwoOwners other) ha hb e =
    let same = numbered-one (codes "TwoOwners state ") state other ha hb e in
    cc
lab-one a b ha hb e = absurd (omega (arith, at e 0, at e 3, at e 6))

choice-one : (m n i j : ℕ) (a b : ChoiceFault) → ArePrintable m n → ArePrintable i j → ChoicePrintable a
    → ChoicePrintable b
    → choice_text m n a ≡ choice_text i j b → (m ≡ i) × (n ≡ j) × (a ≡ b)
choice-one m n i j choice.OutOfMemory choice.OutOfMemory h k ha hb e =
    let place =
    pair-one (codes " state ") (codes "choice ") m n i j h k (append_cancel_left (codes "OutOfMemory") _ _ e) in
    (place.0, place.1, refl)
choice-one m n i j (choice.TooFine first second) (choice.TooFine other another) h k ha hb e =
    let place = place-onto m n i j _ _ h k (append_cancel_left (codes "TooFine") _ _ e) in
    let both = pair-one (codes "first ") (codes "second ") first second other another ha hb place.2 in
    (place.0, place.1, cc)
choice-one m n i j (choice.BadSum sum denominator) (choice.BadSum other another) h k ha hb e =
    let place = place-onto m n i j _ _ h k (append_cancel_left (codes "BadSum") _ _ e) in
    let both = pair-one (codes "sum ") (codes "denominator ") sum denominator other another ha hb place.2 in
    (place.0, place.1, cc)
choice-one m n i j a b h k ha hb e = absurd (omega (arith, at e 0))

abbrev IsOfNoChoice : TraCause → Type 0
IsOfNoChoice (tra.Choice state k fault) = ⊥
IsOfNoChoice cause = Unit {0}

-- no other cause has the text of a fault of a choice
choice-alone : (state k : ℕ) (fault : ChoiceFault) (cause : TraCause) → IsOfNoChoice cause
    → choice_text state k fault ≡ tra_text cause → ⊥
choice-alone state k choice.OutOfMemory tra.OutOfMemory other e = omega (arith, at e 11)
choice-alone state k (choice.TooFine first second) tra.OutOfMemory other e = omega (arith, at e 0)
choice-alone state k (choice.BadSum sum denominator) tra.OutOfMemory other e = omega (arith, at e 0)
choice-alone state k fault (tra.Choice m n another) other e = other
choice-alone state k fault cause other e = omega (arith, at e 0, at e 3, at e 11)

pub tra-one : (a b : TraCause) → TraPrintable a → TraPrintable b → tra_text a ≡ tra_text b → a ≡ b
tra-one (tra.Choice state k fault) (tra.Choice m n other) ha hb e =
    let same = choice-one state k m n fault other ha.0 hb.0 ha.1 hb.1 e in
    cc
tra-one (tra.Choice state k fault) b ha hb e = absurd (choice-alone state k fault b tt e)
tra-one a (tra.Choice state k fault) ha hb e = absurd (choice-alone state k fault a tt (sym e))
tra-one tra.OutOfMemory tra.OutOfMemory ha hb e = refl
tra-one tra.NoHeader tra.NoHeader ha hb e = refl
tra-one tra.BadField tra.BadField ha hb e = refl
tra-one tra.FieldCount tra.FieldCount ha hb e = refl
tra-one tra.OverLimit tra.OverLimit ha hb e = refl
tra-one tra.NoStates tra.NoStates ha hb e = refl
tra-one tra.StateOutOfRange tra.StateOutOfRange ha hb e = refl
tra-one (tra.Number fault) (tra.Number other) ha hb e =
    let same = number_fault-one fault other (append_cancel_left (codes "Number ") _ _ e) in
    cc
tra-one (tra.ActionClash state k) (tra.ActionClash m n) ha hb e =
    let same =
    pair-one (codes " state ") (codes "choice ") state k m n ha hb (append_cancel_left (codes "ActionClash") _ _ e) in
    cc
tra-one (tra.LineCount read stated) (tra.LineCount m n) ha hb e =
    let same =
    pair-one (codes " read ") (codes "stated ") read stated m n ha hb (append_cancel_left (codes "LineCount") _ _ e) in
    cc
tra-one (tra.ChoiceGap state k) (tra.ChoiceGap m n) ha hb e =
    let same =
    pair-one (codes " state ") (codes "choice ") state k m n ha hb (append_cancel_left (codes "ChoiceGap") _ _ e) in
    cc
tra-one (tra.TooManyChoices state) (tra.TooManyChoices other) ha hb e =
    let same = numbered-one (codes "TooManyChoices state ") state other ha hb e in
    cc
tra-one (tra.ChoiceCount read stated) (tra.ChoiceCount m n) ha hb e =
    let same = pair-one (codes " read ") (codes "stated ") read stated m n ha hb
    (append_cancel_left (codes "ChoiceCount") _ _ e) in
    cc
tra-one a b ha hb e = absurd (omega (arith, at e 0, at e 3, at e 6))

-- no cause of a file reads as that it is too long
pub tra-not_long : (cause : TraCause) → tra_text cause ≡ codes "TooLong" → ⊥
tra-not_long (tra.Choice state k choice.OutOfMemory) e = omega (arith, at e 0)
tra-not_long cause e = omega (arith, at e 0, at e 3)

pub lab-not_long : (cause : LabCause) → lab_text cause ≡ codes "TooLong" → ⊥
lab-not_long lab.OutOfMemory e = omega (arith, at e 0)
lab-not_long cause e = omega (arith, at e 0, at e 3)

-- The causes of a certificate.

pub plan_cause-one : (a b : PlanCause) → plan_cause_text a ≡ plan_cause_text b → a ≡ b
plan_cause-one plan.OutOfMemory plan.OutOfMemory e = refl
plan_cause-one plan.NoCertificate plan.NoCertificate e = refl
plan_cause-one plan.Version plan.Version e = refl
plan_cause-one plan.StateCount plan.StateCount e = refl
plan_cause-one plan.BadLine plan.BadLine e = refl
plan_cause-one plan.NumberOutOfRange plan.NumberOutOfRange e = refl
plan_cause-one plan.MissingLine plan.MissingLine e = refl
plan_cause-one plan.Places plan.Places e = refl
plan_cause-one a b e = absurd (omega (arith, at e 0, at e 1))

pub upper-one : (m n : ℕ) (a b : UpperCause) → IsPrintable m → IsPrintable n → UpperPrintable a → UpperPrintable b
    → upper_text m a ≡ upper_text n b → (m ≡ n) × (a ≡ b)
upper-one m n upper.OverOne upper.OverOne hm hn ha hb e = (numbered-one (codes "OverOne state ") m n hm hn e, refl)
upper-one m n upper.Goal upper.Goal hm hn ha hb e = (numbered-one (codes "Goal state ") m n hm hn e, refl)
upper-one m n (upper.Above k) (upper.Above j) hm hn ha hb e =
    let same =
    pair-one (codes " state ") (codes "choice ") m k n j (hm, ha) (hn, hb) (append_cancel_left (codes "Above") _ _ e) in
    (same.0, let alike : k ≡ j = same.1 in cc (alike))
upper-one m n upper.NoReply upper.NoReply hm hn ha hb e = (numbered-one (codes "NoReply state ") m n hm hn e, refl)
upper-one m n upper.Reply upper.Reply hm hn ha hb e = (numbered-one (codes "Reply state ") m n hm hn e, refl)
upper-one m n a b hm hn ha hb e = absurd (omega (arith, at e 0))

pub ranks-one : (m n : ℕ) (a b : RankCause) → IsPrintable m → IsPrintable n → RanksPrintable a → RanksPrintable b
    → ranks_text m a ≡ ranks_text n b → (m ≡ n) × (a ≡ b)
ranks-one m n ranks.Value ranks.Value hm hn ha hb e = (numbered-one (codes "Value state ") m n hm hn e, refl)
ranks-one m n ranks.Choice ranks.Choice hm hn ha hb e = (numbered-one (codes "Choice state ") m n hm hn e, refl)
ranks-one m n (ranks.Short k) (ranks.Short j) hm hn ha hb e =
    let same =
    pair-one (codes " state ") (codes "choice ") m k n j (hm, ha) (hn, hb) (append_cancel_left (codes "Short") _ _ e) in
    (same.0, let alike : k ≡ j = same.1 in cc (alike))
ranks-one m n (ranks.NoStep k) (ranks.NoStep j) hm hn ha hb e =
    let same = pair-one (codes " state ") (codes "choice ") m k n j (hm, ha) (hn, hb)
    (append_cancel_left (codes "NoStep") _ _ e) in
    (same.0, let alike : k ≡ j = same.1 in cc (alike))
ranks-one m n a b hm hn ha hb e = absurd (omega (arith, at e 0))

-- no cause is of two kinds, and none reads as that the text is too long
pub plan_cause-not_upper : (cause : PlanCause) (m : ℕ) (other : UpperCause)
    → plan_cause_text cause ≡ upper_text m other → ⊥
plan_cause-not_upper plan.OutOfMemory m upper.OverOne e = omega (arith, at e 0, at e 1)
plan_cause-not_upper plan.NoCertificate m upper.OverOne e = omega (arith, at e 0, at e 1)
plan_cause-not_upper plan.Version m upper.OverOne e = omega (arith, at e 0, at e 1)
plan_cause-not_upper plan.StateCount m upper.OverOne e = omega (arith, at e 0, at e 1)
plan_cause-not_upper plan.BadLine m upper.OverOne e = omega (arith, at e 0, at e 1)
plan_cause-not_upper plan.NumberOutOfRange m upper.OverOne e = omega (arith, at e 0, at e 1)
plan_cause-not_upper plan.MissingLine m upper.OverOne e = omega (arith, at e 0, at e 1)
plan_cause-not_upper plan.Places m upper.OverOne e = omega (arith, at e 0, at e 1)
plan_cause-not_upper cause m other e = omega (arith, at e 0, at e 1, at e 2)

pub plan_cause-not_ranks : (cause : PlanCause) (m : ℕ) (other : RankCause)
    → plan_cause_text cause ≡ ranks_text m other → ⊥
plan_cause-not_ranks plan.OutOfMemory m ranks.Value e = omega (arith, at e 0, at e 1)
plan_cause-not_ranks plan.NoCertificate m ranks.Value e = omega (arith, at e 0, at e 1)
plan_cause-not_ranks plan.Version m ranks.Value e = omega (arith, at e 0, at e 1)
plan_cause-not_ranks plan.StateCount m ranks.Value e = omega (arith, at e 0, at e 1)
plan_cause-not_ranks plan.BadLine m ranks.Value e = omega (arith, at e 0, at e 1)
plan_cause-not_ranks plan.NumberOutOfRange m ranks.Value e = omega (arith, at e 0, at e 1)
plan_cause-not_ranks plan.MissingLine m ranks.Value e = omega (arith, at e 0, at e 1)
plan_cause-not_ranks plan.Places m ranks.Value e = omega (arith, at e 0, at e 1)
plan_cause-not_ranks cause m other e = omega (arith, at e 0, at e 1, at e 2)

pub upper-not_ranks : (m n : ℕ) (cause : UpperCause) (other : RankCause) → upper_text m cause ≡ ranks_text n other → ⊥
upper-not_ranks m n upper.OverOne ranks.Value e = omega (arith, at e 0)
upper-not_ranks m n upper.Goal ranks.Value e = omega (arith, at e 0)
upper-not_ranks m n (upper.Above k) ranks.Value e = omega (arith, at e 0)
upper-not_ranks m n upper.NoReply ranks.Value e = omega (arith, at e 0)
upper-not_ranks m n upper.Reply ranks.Value e = omega (arith, at e 0)
upper-not_ranks m n cause other e = omega (arith, at e 0, at e 2)

pub plan_cause-not_long : (cause : PlanCause) → plan_cause_text cause ≡ codes "TooLong" → ⊥
plan_cause-not_long plan.OutOfMemory e = omega (arith, at e 0)
plan_cause-not_long cause e = omega (arith, at e 0)

pub upper-not_long : (m : ℕ) (cause : UpperCause) → upper_text m cause ≡ codes "TooLong" → ⊥
upper-not_long m upper.OverOne e = omega (arith, at e 0)
upper-not_long m cause e = omega (arith, at e 0)

pub ranks-not_long : (m : ℕ) (cause : RankCause) → ranks_text m cause ≡ codes "TooLong" → ⊥
ranks-not_long m ranks.Value e = omega (arith, at e 0)
ranks-not_long m cause e = omega (arith, at e 0)
