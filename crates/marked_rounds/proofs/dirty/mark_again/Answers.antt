use Rattle.std.proofs.Common.{◌≡◌, Bool, List, length, sym, ◌∙◌, subst, arith}
use Rattle.std.specs.Prelude.{drop}
use Rattle.std.proofs.lemmas.List.{take_at}
use Rattle.marked_rounds.specs.DirtySet.{AreMarkedFor}
use Rattle.marked_rounds.proofs.dirty.mark_again.Goals as goal

pub returns-else-changed-states-clause-marked : goal.returns-else-changed-states-clause-marked
returns-else-changed-states-clause-marked c =
    let old : List Bool = c.args.dirty.now.marks.items in
    let new : List Bool = c.mark_changed.new.marks in
    let many : length new ≡ length old = c.mark_changed.ensures.marks ∙ sym c.requires.marks in
    let back =
    take_at new (drop (length new) old) c.args.dirty.now.marks.len (omega (arith, many, c.args.dirty.now.marks.ok)) in
    subst (λ (l : List Bool). AreMarkedFor c.args.game.now c.args.dirty.now.more.items l) (sym back)
    (subst (λ (l : List Bool). AreMarkedFor c.args.game.now l new) c.deref_mut.ensures.value
    c.mark_changed.ensures.marked)
