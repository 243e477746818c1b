-- What marks promise, kept from round to round.
use Rattle.std.proofs.Common.{◌≡◌, ℕ, ◌<◌, ◌≤◌, Bool, true, false, List, arith, refl, sym, ap, ◌∙◌, le_trans}
use Rattle.std.proofs.Common.{slice_index_or}
use Rattle.game_model.specs.Query.{Query, IsQuery, states}
use Rattle.game_model.specs.Rounded.{down_step, IsSettled}
use Rattle.game_model.proofs.Choices.{AreChoicesOf-choices_of}
use Rattle.game_laws.proofs.Steps.{down_step-le}
use Rattle.predecessors.proofs.Successors.{step-of-successors}
use Rattle.predecessors.specs.Marks.{IsMarked}
use Rattle.marked_rounds.specs.declared.dirty.DirtySet.{DirtySet}
use Rattle.marked_rounds.specs.DirtySet.{read_of, IsDirtySet, IsReadAgain, AreMarkedFor}

-- a mark stands or not
by-mark : (mark : Bool) (X : Type 0) → (mark ≡ true → X) → (mark ≡ false → X) → X
by-mark true X on off = on refl
by-mark false X on off = off refl

-- after a round and the reading behind it: each state, marked or not, is read with at least its step over what was read
-- before
pub step-everywhere : (q : Query) (old mid new : DirtySet) (before round after : ℕ → ℕ) → IsQuery q
    → IsDirtySet q old before → mid.read.items ≡ old.read.items → mid.marks.items ≡ old.marks.items
    → ((s : ℕ) → s < states q → IsMarked old.marks.items s → down_step q before s ≤ round s)
    → IsReadAgain q mid new round after → (s : ℕ) → s < states q → down_step q (read_of old) s ≤ read_of new s
step-everywhere q old mid new before round after h dirty same_read same_marks step again s inside =
    let kept : read_of mid s ≡ read_of old s = ap (λ (l : List ℕ). slice_index_or l s 0) same_read in
    by-mark (slice_index_or old.marks.items s false) (down_step q (read_of old) s ≤ read_of new s)
    (λ on. le_trans (down_step-le q (read_of old) before (AreChoicesOf-choices_of q.game h.game) dirty.below s)
    (le_trans (step s inside on)
    (again.marked s inside (ap (λ (l : List Bool). slice_index_or l s false) same_marks ∙ on))))
    (λ off. omega (arith, dirty.quiet s inside off, again.rises s inside, kept))

-- where the states with an edge to a changed one are marked, the others are quiet
pub quiet-again : (q : Query) (old mid new : DirtySet) (marks : List Bool) (round after : ℕ → ℕ)
    → IsQuery q → mid.read.items ≡ old.read.items → IsReadAgain q mid new round after
    → ((s : ℕ) → s < states q → down_step q (read_of old) s ≤ read_of new s) → AreMarkedFor q.game new.more.items marks
    → (s : ℕ) → s < states q → slice_index_or marks s false ≡ false → down_step q (read_of new) s ≤ read_of new s
quiet-again q old mid new marks round after h same_read again step marked s inside off =
    le_trans (step-of-successors q (read_of new) (read_of old) s h inside (λ c t within leads.
    by-mark (slice_index_or new.more.items t false) (read_of new t ≤ read_of old t)
    (λ on. absurd (let clash : true ≡ false = sym (marked s c t within on leads) ∙ off in cc))
    (λ kept. omega (arith, again.same t within kept, ap (λ (l : List ℕ). slice_index_or l t 0) same_read))))
    (step s inside)

-- where nothing changed, all are quiet
pub settled-unchanged : (q : Query) (old mid new : DirtySet) (round after : ℕ → ℕ)
    → IsQuery q → mid.read.items ≡ old.read.items → IsReadAgain q mid new round after
    → ((s : ℕ) → s < states q → down_step q (read_of old) s ≤ read_of new s)
    → ((s : ℕ) → s < states q → slice_index_or new.more.items s false ≡ false) → IsSettled q (read_of new)
settled-unchanged q old mid new round after h same_read again step none s inside =
    le_trans (down_step-le q (read_of new) (read_of old) (AreChoicesOf-choices_of q.game h.game) (λ t within.
    omega (arith, again.same t within (none t within), ap (λ (l : List ℕ). slice_index_or l t 0) same_read)) s)
    (step s inside)
