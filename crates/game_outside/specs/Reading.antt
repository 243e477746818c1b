-- This module defines how a call that reads a text leaves a shelf, by what the shelf tells before and after.
use Rattle.std.specs.Prelude.{◌≡◌, ◌<◌, ◌≤◌, ◌+◌, ◌↔◌, ⊤, ℕ, List, true, Result, IsErrOf}
use Rattle.game_outside.specs.declared.shelf.Shelf.{Ghosts}
use Rattle.game_outside.specs.declared.shelf.ReadEnd.{ReadEnd}
use Rattle.game_outside.specs.declared.shelf.ReadEnd.TheVariants.{ReadFault, TooLong}
use Rattle.game_outside.specs.Limits.{piece_size}
use Rattle.game_outside.specs.Outside.{Holds, Rose, KeepsShelf}

-- A call that takes bytes of a text, up to a limit, leaves a shelf like this. `IsThere` says that the text is there.
-- The error `fault` is a fault of reading, and `long` is a text that is too long.
pub record ReadingLeaves {S X E : Type 0} (shelf : Ghosts S) (IsThere : Type 0) (limit : ℕ) (fault long : E)
    (old new : S) (result : Result X E) : Type 0 where
  -- A fault of reading is answered only if the count of faults rose, and never if the text is there and the shelf is
  -- steady.
  pub read_fault : IsErrOf result fault → Rose (shelf.faults old) (shelf.faults new)
  pub steadily : IsErrOf result fault → shelf.steady old ≡ true → IsThere → ⊥
  -- A text is too long exactly if more bytes were taken than the limit allows, and at most a piece more is taken.
  pub too_long : IsErrOf result long ↔ limit < shelf.taken new
  pub taken : shelf.taken new ≤ limit + piece_size
  -- What is held does not change, nor whether the shelf is steady. Its count never falls, and does not change if the
  -- text is there and the shelf is steady.
  pub kept : KeepsShelf (shelf.held old) (shelf.held new) (shelf.steady old) (shelf.steady new) (shelf.faults old)
      (shelf.faults new)
  pub quiet : shelf.steady old ≡ true → IsThere → shelf.faults new ≡ shelf.faults old

-- This is the same for the text under a name, which is there if it is held.
abbrev pub LeavesNamed : {S X : Type 0} → Ghosts S → List ℕ → ℕ → S → S → Result X ReadEnd → Type 0
LeavesNamed shelf name limit old new result =
    ReadingLeaves shelf (Holds (shelf.held old) name) limit ReadFault TooLong old new result

-- This is the same for a text that was begun, which is there.
abbrev pub LeavesBegun : {S X : Type 0} → Ghosts S → ℕ → S → S → Result X ReadEnd → Type 0
LeavesBegun shelf limit old new result = ReadingLeaves shelf ⊤ limit ReadFault TooLong old new result
