-- These definitions describe how the reading of a file ends.
use Rattle.std.specs.Prelude.{Bool, true, false, Option, Some, None, Result, Ok, Err, if◌then◌else◌}
use Rattle.game_outside.specs.declared.file.FileEnd.{FileEnd}
use Rattle.game_outside.specs.declared.file.FileEnd.TheVariants as file
use Rattle.distributions.specs.declared.choice.ChoiceFault.TheVariants as choice
use Rattle.transition_lines.specs.declared.fault.TraCause.{TraCause}
use Rattle.transition_lines.specs.declared.fault.TraCause.TheVariants.{OutOfMemory, Choice}
use Rattle.transition_lines.specs.declared.fault.TraFault.{TraFault}
use Rattle.tra_reader.specs.declared.stop.Stop.{Stop}
use Rattle.tra_reader.specs.declared.stop.Stop.TheVariants as stop

-- Memory ran out, for the whole text or for a choice.
abbrev pub is_out_of_memory : TraCause → Bool
is_out_of_memory OutOfMemory = true
is_out_of_memory (Choice state k choice.OutOfMemory) = true
is_out_of_memory cause = false

-- The answer is the same, but a refusal because memory ran out becomes `OutOfMemory`.
abbrev pub without_want_of : {X : Type 0} → Result X (FileEnd TraFault) → Result X (FileEnd TraFault)
without_want_of (Err (file.Refused fault)) =
    if is_out_of_memory fault.cause then Err file.OutOfMemory else Err (file.Refused fault)
without_want_of (Ok x) = Ok x
without_want_of (Err file.OutOfMemory) = Err file.OutOfMemory
without_want_of (Err file.ReadFault) = Err file.ReadFault
without_want_of (Err file.TooLong) = Err file.TooLong

-- The answer is what was read, unless a line was out of order.
abbrev pub in_order_of : {X : Type 0} → Result X (FileEnd Stop) → Option (Result X (FileEnd TraFault))
in_order_of (Ok x) = Some (Ok x)
in_order_of (Err (file.Refused stop.OutOfOrder)) = None
in_order_of (Err (file.Refused (stop.Refused fault))) = Some (Err (file.Refused fault))
in_order_of (Err file.OutOfMemory) = Some (Err file.OutOfMemory)
in_order_of (Err file.ReadFault) = Some (Err file.ReadFault)
in_order_of (Err file.TooLong) = Some (Err file.TooLong)
