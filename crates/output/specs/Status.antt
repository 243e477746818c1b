-- These definitions give the exit status of each end of a run.
use Rattle.std.specs.Prelude.{ℕ}
use Rattle.output.specs.declared.status.Status.{Status}
use Rattle.output.specs.declared.status.Status.TheVariants.{Fine, SomeFalse, SomeUndecided, Usage, ModelRefused}
use Rattle.output.specs.declared.status.Status.TheVariants.{ReadFault, WriteFault, OutOfMemory, CertificateRefused}

-- This is the exit status of the program, by how the run ends.
abbrev pub status_number : Status → ℕ
status_number Fine = 0
status_number SomeFalse = 1
status_number SomeUndecided = 2
status_number Usage = 3
status_number ModelRefused = 4
status_number ReadFault = 5
status_number WriteFault = 6
status_number OutOfMemory = 7
status_number CertificateRefused = 8

-- With this status a report was written.
abbrev pub IsAnswer : Status → Type 0
IsAnswer Fine = Unit {0}
IsAnswer SomeFalse = Unit {0}
IsAnswer SomeUndecided = Unit {0}
IsAnswer status = ⊥
