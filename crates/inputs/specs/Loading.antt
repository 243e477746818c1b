-- This module says what loading answers for the texts that it reads.
use Rattle.std.specs.Prelude.{◌≡◌, ◌<◌, ◌≤◌, ◌+◌, ◌⊎◌, ℕ, Bool, true, List, Option, Result, Ok, Err, IsErrOf}
use Rattle.text_lines.specs.Limits.{most_bytes}
use Rattle.game_outside.specs.Limits.{piece_size}
use Rattle.game_outside.specs.declared.file.FileEnd.{FileEnd}
use Rattle.game_outside.specs.declared.file.FileEnd.TheVariants as file
use Rattle.game_outside.specs.Outside.{Holding, Rose, KeepsShelf}
use Rattle.output.specs.declared.refusal.Text.{Text}
use Rattle.formula_sets.specs.declared.fault.PoseFault.{PoseFault}
use Rattle.formula_sets.specs.declared.fault.PoseFault.TheVariants as pose
use Rattle.output.specs.declared.refusal.Refusal.TheVariants.{TooLong, OfQuestion}
use Rattle.output.specs.Caused.{IsCaused}
use Rattle.inputs.specs.declared.load.End.{End}
use Rattle.inputs.specs.declared.load.End.TheVariants.{OutOfMemory, ReadFault, Refused}
use Rattle.inputs.specs.Said.{Said, NotHeld, Refuses, Denoted}
use Rattle.inputs.specs.Sources.{IfKnown}

-- This is how loading ends if a formula poses no question.
abbrev pub end_of_question : PoseFault → End
end_of_question pose.OutOfMemory = OutOfMemory
end_of_question (pose.UnknownLabel name) = Refused (OfQuestion (pose.UnknownLabel name))
end_of_question (pose.UnknownPlayer name) = Refused (OfQuestion (pose.UnknownPlayer name))
end_of_question pose.NoInit = Refused (OfQuestion pose.NoInit)

-- The answer is what is said, or memory ran out.
abbrev pub Loads : {X Y : Type 0} → (X → Y) → Result X End → Said Y → Type 0
Loads view (Ok x) said = said ≡ Denoted (view x)
Loads view (Err OutOfMemory) said = Unit {0}
Loads view (Err ReadFault) said = said ≡ NotHeld
Loads view (Err (Refused refusal)) said = said ≡ Refuses refusal

-- The answer is what is said of a source. If the holding is known, the source is the one that is held at the place,
-- unless it can't be read. On a steady shelf it always is.
pub record LoadsText {X Y : Type 0} (holding : Option Holding) (steady : Bool) (place : Holding → Option (List ℕ))
    (view : X → Y) (result : Result X End) (said : Option (List ℕ) → Said Y) : Type 0 where
  pub source : Option (List ℕ)
  pub told : (IsErrOf result ReadFault → ⊥) → IfKnown holding (λ held. source ≡ place held)
  pub steadily : steady ≡ true → IfKnown holding (λ held. source ≡ place held)
  pub loads : Loads view result (said source)

-- Loading refuses nothing because memory ran out.
abbrev pub EndsCaused : {X : Type 0} → Result X End → Type 0
EndsCaused (Ok x) = Unit {0}
EndsCaused (Err OutOfMemory) = Unit {0}
EndsCaused (Err ReadFault) = Unit {0}
EndsCaused (Err (Refused refusal)) = IsCaused refusal

-- A text was too long.
abbrev pub IsTooLong : {X : Type 0} → Result X End → Type 0
IsTooLong {X} result = (text : Text) × (result ≡ Err (Refused (TooLong text)))

-- A call that asks nothing of a shelf has no fault of reading, and refuses nothing because memory ran out and nothing
-- as too long.
pub record ReadsNothing {X : Type 0} (result : Result X End) : Type 0 where
  pub read : IsErrOf result ReadFault → ⊥
  pub caused : EndsCaused result
  pub short : IsTooLong result → ⊥

-- This much is taken of the last text that loading reads. The text is refused as too long only if this is more than the
-- limit. If it is more, the text is refused as too long or memory runs out.
pub record Takes {X : Type 0} (result : Result X End) (taken : ℕ) : Type 0 where
  pub most : taken ≤ most_bytes + piece_size
  pub too_long : IsTooLong result → most_bytes < taken
  pub only_too_long : most_bytes < taken → IsTooLong result ⊎ IsErrOf result OutOfMemory

-- Loading does this to a shelf.
pub record LoadingLeaves {S X : Type 0} (held : S → Option Holding) (steady : S → Bool) (faults took : S → ℕ)
    (old new : S) (result : Result X End) : Type 0 where
  -- Loading has a fault of reading only if the shelf had one.
  pub read_fault : IsErrOf result ReadFault → Rose (faults old) (faults new)
  pub takes : Takes result (took new)
  pub kept : KeepsShelf (held old) (held new) (steady old) (steady new) (faults old) (faults new)

-- This is why a file that was not accepted gives no text: the fault that its reader found, or, if the file was not read
-- to its end, how loading ends.
abbrev pub fault_of : {F : Type 0} → Text → FileEnd F → Result F End
fault_of text file.OutOfMemory = Err OutOfMemory
fault_of text file.ReadFault = Err ReadFault
fault_of text file.TooLong = Err (Refused (TooLong text))
fault_of text (file.Refused fault) = Ok fault
