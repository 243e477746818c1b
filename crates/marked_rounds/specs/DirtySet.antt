-- A dirty set says between two rounds which states may rise.
use Rattle.std.specs.Prelude.{◌≡◌, ◌≢◌, ℕ, ◌<◌, ◌≤◌, Bool, true, false, List, length, All, slice_index, slice_index_or}
use Rattle.game_model.specs.Game.{Distribution}
use Rattle.game_model.specs.Query.{Query, states}
use Rattle.game_model.specs.Limits.{unit}
use Rattle.game_model.specs.Rounded.{down_step}
use Rattle.predecessors.specs.Moves.{LeadsTo}
use Rattle.predecessors.specs.Marks.{IsMarked}
use Rattle.marked_rounds.specs.declared.dirty.DirtySet.{DirtySet}

-- This is the value that was read of a state.
abbrev pub read_of : DirtySet → ℕ → ℕ
read_of dirty = slice_index dirty.read.items

-- Each state has one value, at most the unit, and two marks.
pub record IsSized (q : Query) (dirty : DirtySet) : Type 0 where
  pub read : length dirty.read.items ≡ states q
  pub units : All (λ v. v ≤ unit) dirty.read.items
  pub marks : length dirty.marks.items ≡ states q
  pub more : length dirty.more.items ≡ states q

-- If a dirty set says that all states are to be updated, each has a mark.
abbrev pub IsWhole : Query → DirtySet → Type 0
IsWhole q dirty = dirty.whole ≡ true → (s : ℕ) → s < states q → IsMarked dirty.marks.items s

-- A state without a mark is quiet: its down step over the values that were read is at most its own value. The values
-- that were read are nowhere above what was seen.
pub record IsDirtySet (q : Query) (dirty : DirtySet) (seen : ℕ → ℕ) : Type 0 where
  pub sized : IsSized q dirty
  pub whole : IsWhole q dirty
  pub below : (s : ℕ) → s < states q → read_of dirty s ≤ seen s
  pub quiet : (s : ℕ) → s < states q → slice_index_or dirty.marks.items s false ≡ false
      → down_step q (read_of dirty) s ≤ read_of dirty s

-- A state was looked at again. Its value is no smaller, and at most what is seen now. If it had the second mark, its
-- value is at least what was seen before. If its value changed, it has the second mark.
pub record IsStateRead (s : ℕ) (old new : DirtySet) (before after : ℕ → ℕ) : Type 0 where
  pub rises : read_of old s ≤ read_of new s
  pub below : read_of new s ≤ after s
  pub marked : IsMarked old.more.items s → before s ≤ read_of new s
  pub same : slice_index_or new.more.items s false ≡ false → read_of new s ≡ read_of old s

-- The values and the second marks of all other states are unchanged.
pub record IsElsewhere (s : ℕ) (old new : DirtySet) : Type 0 where
  pub read : (t : ℕ) → t ≢ s → read_of new t ≡ read_of old t
  pub more : (t : ℕ) → t ≢ s → slice_index_or new.more.items t false ≡ slice_index_or old.more.items t false

-- After a round the states were looked at again. Each value is no smaller, and at most what is seen now. The value of a
-- marked state is at least what was seen before. A state whose value changed has the second mark.
pub record IsReadAgain (q : Query) (old new : DirtySet) (before after : ℕ → ℕ) : Type 0 where
  pub rises : (s : ℕ) → s < states q → read_of old s ≤ read_of new s
  pub below : (s : ℕ) → s < states q → read_of new s ≤ after s
  pub marked : (s : ℕ) → s < states q → IsMarked old.marks.items s → before s ≤ read_of new s
  pub same : (s : ℕ) → s < states q → slice_index_or new.more.items s false ≡ false → read_of new s ≡ read_of old s

-- Each state with an edge to a changed state has a mark.
abbrev pub AreMarkedFor : List (List Distribution) → List Bool → List Bool → Type 0
AreMarkedFor game changed marks = (s c t : ℕ) → t < length game → IsMarked changed t → LeadsTo game s c t
    → IsMarked marks s
