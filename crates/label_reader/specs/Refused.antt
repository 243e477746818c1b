-- This module defines how a refusal because memory ran out becomes an end of its own.
use Rattle.std.specs.Prelude.{◌≡◌, Bool, true, false, Result, Ok, Err}
use Rattle.game_outside.specs.declared.file.FileEnd.{FileEnd}
use Rattle.game_outside.specs.declared.file.FileEnd.TheVariants as file
use Rattle.label_lines.specs.declared.faults.LabFault.{LabFault}
use Rattle.label_lines.specs.declared.faults.LabCause.{LabCause}
use Rattle.label_lines.specs.declared.faults.LabCause.TheVariants.{OutOfMemory}

-- Memory ran out.
abbrev pub is_out_of_memory : LabCause → Bool
is_out_of_memory OutOfMemory = true
is_out_of_memory cause = false

-- The answer is the same, but a refusal because memory ran out becomes `OutOfMemory`.
abbrev pub IsWithoutWant : {X : Type 0} → Result X (FileEnd LabFault) → Result X (FileEnd LabFault) → Type 0
IsWithoutWant (Err (file.Refused fault)) after = (is_out_of_memory fault.cause ≡ true → after ≡ Err file.OutOfMemory)
    × (is_out_of_memory fault.cause ≡ false → after ≡ Err (file.Refused fault))
IsWithoutWant (Ok x) after = after ≡ Ok x
IsWithoutWant (Err file.OutOfMemory) after = after ≡ Err file.OutOfMemory
IsWithoutWant (Err file.ReadFault) after = after ≡ Err file.ReadFault
IsWithoutWant (Err file.TooLong) after = after ≡ Err file.TooLong
