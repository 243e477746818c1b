-- This module says which refusals are not because memory ran out.
use Rattle.std.specs.Prelude.{◌≡◌, ◌≢◌, false}
use Rattle.tra_reader.specs.FileEnds.{is_out_of_memory}
use Rattle.label_lines.specs.declared.faults.LabCause.TheVariants as lab
use Rattle.formula_tokens.specs.declared.fault.FormulaCause.TheVariants as formula
use Rattle.formula_sets.specs.declared.fault.PoseFault.TheVariants as question
use Rattle.certificate_audit.specs.Refused.{IsOutOfMemory}
use Rattle.output.specs.declared.refusal.Refusal.{Refusal}
use Rattle.output.specs.declared.refusal.Refusal.TheVariants.{OfTra, OfLab, OfOwn, OfFormula, OfQuestion}
use Rattle.output.specs.declared.refusal.Refusal.TheVariants.{WrongKind, OfCertificate, OfValues, TooLong}

-- A text, a formula or a question is at fault, and not memory.
abbrev pub IsCaused : Refusal → Type 0
IsCaused (OfTra fault) = is_out_of_memory fault.cause ≡ false
IsCaused (OfLab fault) = fault.cause ≢ lab.OutOfMemory
IsCaused (OfOwn fault) = fault.cause ≢ lab.OutOfMemory
IsCaused (OfFormula fault) = fault.cause ≢ formula.OutOfMemory
IsCaused (OfQuestion fault) = fault ≢ question.OutOfMemory
IsCaused WrongKind = Unit {0}
IsCaused (OfCertificate fault) = ¬ IsOutOfMemory fault
IsCaused (OfValues fault) = Unit {0}
IsCaused (TooLong text) = Unit {0}
