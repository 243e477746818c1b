use Rattle.std.proofs.Common.{◌≡◌, ◌≢◌, ℕ, ◌<◌, List, Bool, true, false, subst}
use Rattle.std.specs.Prelude.{slice_index, slice_index_or}
use Rattle.trap_sets.specs.declared.reach.Way.TheVariants.{On, Back}
use Rattle.trap_sets.proofs.Splitting.{IsBreak-missed, AreJoined-met}
use Rattle.trap_sets.proofs.breaking.search_break.Goals as goal

-- the state that a list of marks lacks, of the marks
missed : (part : List ℕ) (marks read : List Bool) (s : ℕ) → read ≡ marks
    → (slice_index part s ≢ 0) × (slice_index_or read s false ≡ false)
    × ((t : ℕ) → t < s → slice_index part t ≢ 0 → slice_index_or read t false ≡ true)
    → (slice_index part s ≢ 0) × (slice_index_or marks s false ≡ false)
    × ((t : ℕ) → t < s → slice_index part t ≢ 0 → slice_index_or marks t false ≡ true)
missed part marks read s is found = subst (λ (xs : List Bool). (slice_index part s ≢ 0)
    × (slice_index_or xs s false ≡ false)
    × ((t : ℕ) → t < s → slice_index part t ≢ 0 → slice_index_or xs t false ≡ true)) is found

pub returns-in-Some : goal.returns-in-Some
returns-in-Some c = IsBreak-missed c.args.internal.now c.requires.keeps c.requires.rooted Back c.in_ok-back.back.items
    c.in-Some.state c.in_ok-back.ensures (missed c.args.internal.now.part.now c.in_ok-back.back.items c.deref.result.now
    c.in-Some.state c.deref.ensures.value c.in-Some.ensures)

pub returns-in-Some-first_unmarked : goal.returns-in-Some-first_unmarked
returns-in-Some-first_unmarked c = IsBreak-missed c.args.internal.now c.requires.keeps c.requires.rooted On
    c.in_ok-on.on.items c.in-Some-first_unmarked.state c.in_ok-on.ensures (missed c.args.internal.now.part.now
    c.in_ok-on.on.items c.deref-2.result.now c.in-Some-first_unmarked.state c.deref-2.ensures.value
    c.in-Some-first_unmarked.ensures)

pub returns : goal.returns
returns c =
    let part = c.args.internal.now.part.now in
    let back : (s : ℕ) → slice_index part s ≢ 0 → slice_index_or c.in_ok-back.back.items s false ≡ true =
    subst (λ (xs : List Bool). (s : ℕ) → slice_index part s ≢ 0 → slice_index_or xs s false ≡ true)
    c.deref.ensures.value c.in_default.ensures in
    let on : (s : ℕ) → slice_index part s ≢ 0 → slice_index_or c.in_ok-on.on.items s false ≡ true =
    subst (λ (xs : List Bool). (s : ℕ) → slice_index part s ≢ 0 → slice_index_or xs s false ≡ true)
    c.deref-2.ensures.value c.in_default-first_unmarked.ensures in
    AreJoined-met c.args.internal.now c.requires.keeps c.requires.rooted c.in_ok-back.back.items c.in_ok-on.on.items
    c.in_ok-back.ensures c.in_ok-on.ensures back on
