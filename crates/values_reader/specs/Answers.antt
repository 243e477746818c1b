-- Reading a file of values gives these answers.
use Rattle.std.specs.Prelude.{◌≡◌, Option, Some, None, Result, Ok, Err}
use Rattle.values_reader.specs.declared.fault.ValuesFault.{ValuesFault}
use Rattle.values_reader.specs.declared.fault.ValuesEnd.{ValuesEnd}
use Rattle.values_reader.specs.declared.fault.ValuesEnd.TheVariants.{OutOfMemory, Refused}

-- The answer is values if there is no fault, and the first fault otherwise, or memory ran out.
abbrev pub Answers : {X : Type 0} → Option ValuesFault → Result X ValuesEnd → Type 0
Answers fault (Ok values) = fault ≡ None
Answers fault (Err OutOfMemory) = Unit {0}
Answers fault (Err (Refused first)) = fault ≡ Some first
