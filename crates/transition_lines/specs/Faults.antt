-- These are the faults of a text, and the answer that memory ran out.
use Rattle.std.specs.Prelude.{◌≡◌, ℕ}
use Rattle.transition_lines.specs.declared.fault.TraCause.{TraCause}
use Rattle.distributions.specs.declared.choice.ChoiceFault.{ChoiceFault}
use Rattle.distributions.specs.declared.choice.ChoiceFault.TheVariants.{OutOfMemory as NoMemory, TooFine, BadSum}
use Rattle.transition_lines.specs.declared.fault.TraCause.TheVariants.{OutOfMemory, Choice}
use Rattle.transition_lines.specs.declared.fault.TraFault.{TraFault}

-- This is the fault of a line, by its number, which counts from 1. A fault of line 0 belongs to the whole text.
abbrev pub fault_at : ℕ → TraCause → TraFault
fault_at line cause = record { line = line; cause = cause }

-- This is a fault of the whole text.
abbrev pub fault_of_all : TraCause → TraFault
fault_of_all cause = fault_at 0 cause

-- Memory ran out, which is no fault of the text.
abbrev pub IsOutOfMemory : TraFault → Type 0
IsOutOfMemory fault = fault ≡ fault_of_all OutOfMemory

-- This is the fault of a choice, which belongs to the whole text. If memory ran out for the choice, it ran out for the
-- whole text.
abbrev pub fault_of_choice : ℕ → ℕ → ChoiceFault → TraFault
fault_of_choice s k NoMemory = fault_of_all OutOfMemory
fault_of_choice s k (TooFine first second) = fault_of_all (Choice s k (TooFine first second))
fault_of_choice s k (BadSum sum denominator) = fault_of_all (Choice s k (BadSum sum denominator))
