-- A round updates the states that have marks.
use Rattle.std.specs.Prelude.{◌≡◌, ℕ, ◌<◌, ◌≤◌, Bool, false, List, length}
use Rattle.std.specs.List.{AllWithin}
use Rattle.predecessors.specs.Marks.{IsMarked}

-- There is a mark from one place up to and not including another.
pub record HasMark (marks : List Bool) (low high : ℕ) : Type 0 where
  pub place : ℕ
  pub from : low ≤ place
  pub upto : place < high
  pub marked : IsMarked marks place

-- This is the first mark from a place on, or the number of marks if there is none.
pub record IsNextMark (marks : List Bool) (from next : ℕ) : Type 0 where
  pub order : from ≤ next
  pub within : next ≤ length marks
  pub none : AllWithin (λ m. m ≡ false) marks from next
  pub marked : next < length marks → IsMarked marks next
