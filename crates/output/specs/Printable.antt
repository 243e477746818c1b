-- This module says when the numbers of a refusal are written in full.
use Rattle.std.specs.Prelude.{ℕ, ◌<◌, ◌^◌}
use Rattle.distributions.specs.declared.choice.ChoiceFault.{ChoiceFault}
use Rattle.distributions.specs.declared.choice.ChoiceFault.TheVariants as choice
use Rattle.transition_lines.specs.declared.fault.TraCause.{TraCause}
use Rattle.transition_lines.specs.declared.fault.TraCause.TheVariants as tra
use Rattle.label_lines.specs.declared.faults.LabCause.{LabCause}
use Rattle.label_lines.specs.declared.faults.LabCause.TheVariants as lab
use Rattle.inductive_check.specs.declared.upper.UpperCause.{UpperCause}
use Rattle.inductive_check.specs.declared.upper.UpperCause.TheVariants as upper
use Rattle.rank_certificate.specs.declared.check.RankCause.{RankCause}
use Rattle.rank_certificate.specs.declared.check.RankCause.TheVariants as ranks
use Rattle.certificate_audit.specs.declared.fault.AuditFault.{AuditFault}
use Rattle.certificate_audit.specs.declared.fault.AuditFault.TheVariants as audit
use Rattle.output.specs.declared.refusal.Refusal.{Refusal}
use Rattle.output.specs.declared.refusal.Refusal.TheVariants.{OfTra, OfLab, OfOwn, OfFormula, OfQuestion}
use Rattle.output.specs.declared.refusal.Refusal.TheVariants.{WrongKind, OfCertificate, OfValues, TooLong}

-- A number has at most 64 digits. `decimal` writes only the last 64 digits of a number, and numbers of 128 bits have at
-- most 39.
abbrev pub IsPrintable : ℕ → Type 0
IsPrintable n = n < 10 ^ 64

-- Both numbers are written in full.
abbrev pub ArePrintable : ℕ → ℕ → Type 0
ArePrintable m n = IsPrintable m × IsPrintable n

-- The numbers that say why a choice is no distribution are written in full.
abbrev pub ChoicePrintable : ChoiceFault → Type 0
ChoicePrintable choice.OutOfMemory = Unit {0}
ChoicePrintable (choice.TooFine first second) = ArePrintable first second
ChoicePrintable (choice.BadSum sum denominator) = ArePrintable sum denominator

-- The numbers that say why a transition text is refused are written in full.
abbrev pub TraPrintable : TraCause → Type 0
TraPrintable (tra.ActionClash state k) = ArePrintable state k
TraPrintable (tra.LineCount read stated) = ArePrintable read stated
TraPrintable (tra.ChoiceGap state k) = ArePrintable state k
TraPrintable (tra.TooManyChoices state) = IsPrintable state
TraPrintable (tra.ChoiceCount read stated) = ArePrintable read stated
TraPrintable (tra.Choice state k fault) = ArePrintable state k × ChoicePrintable fault
TraPrintable cause = Unit {0}

-- If a number says why a label or owner text is refused, it is written in full.
abbrev pub LabPrintable : LabCause → Type 0
LabPrintable (lab.TwoOwners state) = IsPrintable state
LabPrintable cause = Unit {0}

-- If an upper table is refused for a choice, the number of the choice is written in full.
abbrev pub UpperPrintable : UpperCause → Type 0
UpperPrintable upper.OverOne = Unit {0}
UpperPrintable upper.Goal = Unit {0}
UpperPrintable (upper.Above k) = IsPrintable k
UpperPrintable upper.NoReply = Unit {0}
UpperPrintable upper.Reply = Unit {0}

-- If a lower table or its ranks are refused for a choice, the number of the choice is written in full.
abbrev pub RanksPrintable : RankCause → Type 0
RanksPrintable ranks.Value = Unit {0}
RanksPrintable ranks.Choice = Unit {0}
RanksPrintable (ranks.Short k) = IsPrintable k
RanksPrintable (ranks.NoStep k) = IsPrintable k

-- The numbers that say where and why a certificate is refused are written in full.
abbrev pub CertificatePrintable : AuditFault → Type 0
CertificatePrintable (audit.Text fault) = IsPrintable fault.line
CertificatePrintable (audit.Upper fault) = IsPrintable fault.state × UpperPrintable fault.cause
CertificatePrintable (audit.Ranks fault) = IsPrintable fault.state × RanksPrintable fault.cause

-- Every number of the refusal is written in full.
abbrev pub RefusalPrintable : Refusal → Type 0
RefusalPrintable (OfTra fault) = IsPrintable fault.line × TraPrintable fault.cause
RefusalPrintable (OfLab fault) = IsPrintable fault.line × LabPrintable fault.cause
RefusalPrintable (OfOwn fault) = IsPrintable fault.line × LabPrintable fault.cause
RefusalPrintable (OfFormula fault) = IsPrintable fault.place
RefusalPrintable (OfQuestion fault) = Unit {0}
RefusalPrintable WrongKind = Unit {0}
RefusalPrintable (OfCertificate fault) = CertificatePrintable fault
RefusalPrintable (OfValues fault) = IsPrintable fault.line
RefusalPrintable (TooLong text) = Unit {0}
