-- States are looked at again, one after another.
use Rattle.std.proofs.Common.{◌≡◌, ℕ, ◌<◌, ◌≤◌, false, slice_index_or}
use Rattle.marked_rounds.specs.declared.dirty.DirtySet.{DirtySet}
use Rattle.marked_rounds.specs.DirtySet.{read_of, IsStateRead}

-- the states below i were looked at again, and the others are as they were
pub record IsReadBelow (i : ℕ) (old now : DirtySet) (before after : ℕ → ℕ) : Type 0 where
  pub read : (s : ℕ) → s < i → IsStateRead s old now before after
  pub rest : (s : ℕ) → i ≤ s → read_of now s ≡ read_of old s
  pub rest_more : (s : ℕ) → i ≤ s → slice_index_or now.more.items s false ≡ slice_index_or old.more.items s false
