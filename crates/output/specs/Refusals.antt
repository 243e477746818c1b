-- This module defines the line that says why a run is refused.
use Rattle.std.specs.Prelude.{ℕ, List, ◌∷◌, ◌++◌, codes, decimal}
use Rattle.fractions.specs.declared.number.NumberFault.{NumberFault}
use Rattle.fractions.specs.declared.number.NumberFault.TheVariants as number
use Rattle.distributions.specs.declared.choice.ChoiceFault.{ChoiceFault}
use Rattle.distributions.specs.declared.choice.ChoiceFault.TheVariants as choice
use Rattle.transition_lines.specs.declared.fault.TraCause.{TraCause}
use Rattle.transition_lines.specs.declared.fault.TraCause.TheVariants as tra
use Rattle.label_lines.specs.declared.faults.LabCause.{LabCause}
use Rattle.label_lines.specs.declared.faults.LabCause.TheVariants as lab
use Rattle.values_reader.specs.declared.fault.ValuesCause.{ValuesCause}
use Rattle.values_reader.specs.declared.fault.ValuesCause.TheVariants as values
use Rattle.formula_tokens.specs.declared.fault.FormulaCause.{FormulaCause}
use Rattle.formula_tokens.specs.declared.fault.FormulaCause.TheVariants as formula
use Rattle.formula_tokens.specs.declared.fault.FormulaFault.{FormulaFault}
use Rattle.formula_sets.specs.declared.fault.PoseFault.{PoseFault}
use Rattle.formula_sets.specs.declared.fault.PoseFault.TheVariants as question
use Rattle.plan_text.specs.declared.fault.PlanCause.{PlanCause}
use Rattle.plan_text.specs.declared.fault.PlanCause.TheVariants as plan
use Rattle.inductive_check.specs.declared.upper.UpperCause.{UpperCause}
use Rattle.inductive_check.specs.declared.upper.UpperCause.TheVariants as upper
use Rattle.rank_certificate.specs.declared.check.RankCause.{RankCause}
use Rattle.rank_certificate.specs.declared.check.RankCause.TheVariants as ranks
use Rattle.certificate_audit.specs.declared.fault.AuditFault.{AuditFault}
use Rattle.certificate_audit.specs.declared.fault.AuditFault.TheVariants as audit
use Rattle.output.specs.declared.refusal.Text.{Text}
use Rattle.output.specs.declared.refusal.Text.TheVariants.{Tra, Lab, Own, Cert, Values}
use Rattle.output.specs.declared.refusal.Refusal.{Refusal}
use Rattle.output.specs.declared.refusal.Refusal.TheVariants.{OfTra, OfLab, OfOwn, OfFormula, OfQuestion}
use Rattle.output.specs.declared.refusal.Refusal.TheVariants.{WrongKind, OfCertificate, OfValues, TooLong}

-- This text is a name and a number behind it.
abbrev pub numbered : List ℕ → ℕ → List ℕ
numbered name n = name ++ decimal n

-- This text says where a choice is.
abbrev pub choice_place : ℕ → ℕ → List ℕ
choice_place state k = numbered (codes " state ") state ++ numbered (codes " choice ") k

-- This text says how many lines or choices there are, and how many the header states.
abbrev pub counts_text : ℕ → ℕ → List ℕ
counts_text read stated = numbered (codes " read ") read ++ numbered (codes " stated ") stated

-- This text says why a text spells no probability.
abbrev pub number_text : NumberFault → List ℕ
number_text number.NotANumber = codes "NotANumber"
number_text number.TooManyDigits = codes "TooManyDigits"
number_text number.ZeroDenominator = codes "ZeroDenominator"
number_text number.TooFine = codes "TooFine"
number_text number.TooLarge = codes "TooLarge"

-- This text says why a choice is no distribution, and where it is.
abbrev pub choice_text : ℕ → ℕ → ChoiceFault → List ℕ
choice_text state k choice.OutOfMemory = codes "OutOfMemory" ++ choice_place state k
choice_text state k (choice.TooFine first second) =
    codes "TooFine" ++ (choice_place state k ++ (codes " first "
    ++ (decimal first ++ numbered (codes " second ") second)))
choice_text state k (choice.BadSum sum denominator) =
    codes "BadSum" ++ (choice_place state k ++ (codes " sum "
    ++ (decimal sum ++ numbered (codes " denominator ") denominator)))

-- This text says why a transition text denotes no game.
abbrev pub tra_text : TraCause → List ℕ
tra_text tra.OutOfMemory = codes "OutOfMemory"
tra_text tra.NoHeader = codes "NoHeader"
tra_text tra.BadField = codes "BadField"
tra_text tra.FieldCount = codes "FieldCount"
tra_text tra.OverLimit = codes "OverLimit"
tra_text tra.NoStates = codes "NoStates"
tra_text tra.StateOutOfRange = codes "StateOutOfRange"
tra_text (tra.Number fault) = codes "Number " ++ number_text fault
tra_text (tra.ActionClash state k) = codes "ActionClash" ++ choice_place state k
tra_text (tra.LineCount read stated) = codes "LineCount" ++ counts_text read stated
tra_text (tra.ChoiceGap state k) = codes "ChoiceGap" ++ choice_place state k
tra_text (tra.TooManyChoices state) = numbered (codes "TooManyChoices state ") state
tra_text (tra.ChoiceCount read stated) = codes "ChoiceCount" ++ counts_text read stated
tra_text (tra.Choice state k fault) = choice_text state k fault

-- This text says why a label text denotes no labels, or an owner text no owners.
abbrev pub lab_text : LabCause → List ℕ
lab_text lab.OutOfMemory = codes "OutOfMemory"
lab_text lab.NoHeader = codes "NoHeader"
lab_text lab.BadHeader = codes "BadHeader"
lab_text lab.DoubleName = codes "DoubleName"
lab_text lab.DoubleIndex = codes "DoubleIndex"
lab_text lab.BadField = codes "BadField"
lab_text lab.StateOutOfRange = codes "StateOutOfRange"
lab_text lab.UnknownIndex = codes "UnknownIndex"
lab_text lab.OverLimit = codes "OverLimit"
lab_text (lab.TwoOwners state) = numbered (codes "TwoOwners state ") state

-- This text says why a text spells no formula.
abbrev pub formula_text : FormulaCause → List ℕ
formula_text formula.OutOfMemory = codes "OutOfMemory"
formula_text formula.Unexpected = codes "Unexpected"
formula_text formula.End = codes "End"
formula_text formula.TooDeep = codes "TooDeep"
formula_text (formula.BadNumber fault) = codes "BadNumber " ++ number_text fault
formula_text formula.ThresholdOutOfRange = codes "ThresholdOutOfRange"
formula_text formula.TooLong = codes "TooLong"
formula_text formula.BadSteps = codes "BadSteps"
formula_text formula.AskInside = codes "AskInside"

-- This text says why a formula poses no question: it has an unknown label or player, given by the bytes of its name, or
-- there is no initial state.
abbrev pub question_text : PoseFault → List ℕ
question_text question.OutOfMemory = codes "OutOfMemory"
question_text (question.UnknownLabel name) = codes "UnknownLabel " ++ name
question_text (question.UnknownPlayer name) = codes "UnknownPlayer " ++ name
question_text question.NoInit = codes "NoInit"

-- This text says why a text has no certificate for a number of states.
abbrev pub plan_cause_text : PlanCause → List ℕ
plan_cause_text plan.OutOfMemory = codes "OutOfMemory"
plan_cause_text plan.NoCertificate = codes "NoCertificate"
plan_cause_text plan.Version = codes "Version"
plan_cause_text plan.StateCount = codes "StateCount"
plan_cause_text plan.BadLine = codes "BadLine"
plan_cause_text plan.NumberOutOfRange = codes "NumberOutOfRange"
plan_cause_text plan.MissingLine = codes "MissingLine"
plan_cause_text plan.Places = codes "Places"

-- This text says why the upper table of a certificate, or a reply to it, is refused at a state.
abbrev pub upper_text : ℕ → UpperCause → List ℕ
upper_text state upper.OverOne = numbered (codes "OverOne state ") state
upper_text state upper.Goal = numbered (codes "Goal state ") state
upper_text state (upper.Above k) = codes "Above" ++ choice_place state k
upper_text state upper.NoReply = numbered (codes "NoReply state ") state
upper_text state upper.Reply = numbered (codes "Reply state ") state

-- This text says why the lower table, choices and ranks of a certificate are refused at a state.
abbrev pub ranks_text : ℕ → RankCause → List ℕ
ranks_text state ranks.Value = numbered (codes "Value state ") state
ranks_text state ranks.Choice = numbered (codes "Choice state ") state
ranks_text state (ranks.Short k) = codes "Short" ++ choice_place state k
ranks_text state (ranks.NoStep k) = codes "NoStep" ++ choice_place state k

-- This text says why a text has no values for a number of states.
abbrev pub values_text : ValuesCause → List ℕ
values_text values.BadField = codes "BadField"
values_text values.StateOutOfRange = codes "StateOutOfRange"
values_text values.DoubleState = codes "DoubleState"
values_text values.LineCount = codes "LineCount"

-- A refusal names the text that is at fault by this name.
abbrev pub name_of_text : Text → List ℕ
name_of_text Tra = codes "tra"
name_of_text Lab = codes "lab"
name_of_text Own = codes "own"
name_of_text Cert = codes "cert"
name_of_text Values = codes "values"

-- This line tells a fault of a file, with the line of the file.
abbrev pub refused_line : Text → ℕ → List ℕ → List ℕ
refused_line text line cause = codes "refused " ++ (name_of_text text
    ++ (numbered (codes " line ") line ++ (32 ∷ (cause ++ codes "\n"))))

-- This line tells a fault of the formula, with its place.
abbrev pub formula_refused : FormulaFault → List ℕ
formula_refused fault = codes "refused formula place " ++ (decimal fault.place
    ++ (32 ∷ (formula_text fault.cause ++ codes "\n")))

-- This line says why a question is refused.
abbrev pub question_line : List ℕ → List ℕ
question_line cause = codes "refused question line 0 " ++ (cause ++ codes "\n")

-- This line tells a fault of the question. A name is printed as its bytes.
abbrev pub question_refused : PoseFault → List ℕ
question_refused fault = question_line (question_text fault)

-- This line tells a fault of the text of a certificate, with the line, or of what it says, with the state.
abbrev pub certificate_refused : AuditFault → List ℕ
certificate_refused (audit.Text fault) = refused_line Cert fault.line (plan_cause_text fault.cause)
certificate_refused (audit.Upper fault) = refused_line Cert 0 (upper_text fault.state fault.cause)
certificate_refused (audit.Ranks fault) = refused_line Cert 0 (ranks_text fault.state fault.cause)

-- A run writes this line when it is refused.
abbrev pub refusal_text : Refusal → List ℕ
refusal_text (OfTra fault) = refused_line Tra fault.line (tra_text fault.cause)
refusal_text (OfLab fault) = refused_line Lab fault.line (lab_text fault.cause)
refusal_text (OfOwn fault) = refused_line Own fault.line (lab_text fault.cause)
refusal_text (OfFormula fault) = formula_refused fault
refusal_text (OfQuestion fault) = question_refused fault
refusal_text WrongKind = question_line (codes "WrongKind")
refusal_text (OfCertificate fault) = certificate_refused fault
refusal_text (OfValues fault) = refused_line Values fault.line (values_text fault.cause)
refusal_text (TooLong text) = refused_line text 0 (codes "TooLong")

-- A run writes this line when its words denote no command.
abbrev pub usage_text : List ℕ
usage_text = codes "usage: stogame check TRA LAB FORMULA [--own FILE] [--rounds R] [--workers W] [--plan] [--traps] | audit TRA LAB FORMULA CERT [--own FILE] | make SEED STATES [--rounds R] [--workers W] | sure TRA LAB FORMULA [--own FILE]\n"
