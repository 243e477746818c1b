-- This module defines what a reader answers about a file.
use Rattle.std.specs.Prelude.{◌≡◌, ◌≤◌, ℕ, Bool, false, List, length, Option, Result, Ok, Err}
use Rattle.game_outside.specs.declared.file.FileEnd.{FileEnd}
use Rattle.game_outside.specs.declared.file.FileEnd.TheVariants.{OutOfMemory, ReadFault, TooLong, Refused}
use Rattle.game_outside.specs.declared.shelf.ReadEnd.{ReadEnd}
use Rattle.game_outside.specs.declared.shelf.ReadEnd.TheVariants as read
use Rattle.game_outside.specs.declared.shelf.Shelf.{Ghosts}
use Rattle.game_outside.specs.Outside.{Holding, Holds, IsHeldAs, IsHeldLonger}
use Rattle.game_outside.specs.Reading.{ReadingLeaves}

-- There is a text within the limit for which `Holds` is true. If the holding is known, it is the text under the name.
pub record HeldTextWith (holding : Option Holding) (name : List ℕ) (limit : ℕ) (Holds : List ℕ → Type 0) : Type 0 where
  pub text : List ℕ
  pub told : IsHeldAs holding name text
  pub within : length text ≤ limit
  pub holds : Holds text

-- The answer about a file is the answer about its text, or the text is too long, memory ran out, or the shelf failed.
abbrev pub ReadsFile : {X F : Type 0} → (List ℕ → Result X F → Type 0) → Option Holding → List ℕ → ℕ
    → Result X (FileEnd F) → Type 0
ReadsFile Answers holding name limit (Ok x) = HeldTextWith holding name limit (λ text. Answers text (Ok x))
ReadsFile Answers holding name limit (Err (Refused fault)) =
    HeldTextWith holding name limit (λ text. Answers text (Err fault))
ReadsFile Answers holding name limit (Err TooLong) = IsHeldLonger holding name limit
ReadsFile Answers holding name limit (Err ReadFault) = Unit {0}
ReadsFile Answers holding name limit (Err OutOfMemory) = Unit {0}

-- No refusal says that memory ran out, which `is_want` recognises.
abbrev pub RefusesCaused : {X F : Type 0} → (F → Bool) → Result X (FileEnd F) → Type 0
RefusesCaused is_want (Ok x) = Unit {0}
RefusesCaused is_want (Err (Refused fault)) = is_want fault ≡ false
RefusesCaused is_want (Err OutOfMemory) = Unit {0}
RefusesCaused is_want (Err ReadFault) = Unit {0}
RefusesCaused is_want (Err TooLong) = Unit {0}

-- A file ends in this way if its text is not read whole.
abbrev pub of_read : {F : Type 0} → ReadEnd → FileEnd F
of_read read.OutOfMemory = OutOfMemory
of_read read.ReadFault = ReadFault
of_read read.TooLong = TooLong

-- A call that reads the file under a name, up to a limit, leaves a shelf like this.
abbrev pub LeavesShelf : {S X F : Type 0} → Ghosts S → List ℕ → ℕ → S → S → Result X (FileEnd F) → Type 0
LeavesShelf shelf name limit old new result =
    ReadingLeaves shelf (Holds (shelf.held old) name) limit ReadFault TooLong old new result
