use Rattle.std.proofs.Common.{◌≡◌, ◌+◌, Bool, false, List, length, arith, ◌∙◌}
use Rattle.std.specs.Prelude.{slice_set}
use Rattle.std.proofs.lemmas.List.{length-set}
use Rattle.marked_rounds.proofs.Marking.{AreMarkedBelow, marked-more, marked-over}
use Rattle.marked_rounds.proofs.dirty.mark_changed.Goals as goal

pub loop-state-preserved : goal.loop-state-preserved
loop-state-preserved c =
    let h = c.loop-state.invariant in
    let m = c.mark_predecessors.ensures in
    let game = c.args.game.now in
    let i = c.loop-state.state in
    let changed : List Bool = c.args.changed.now in
    let now : List Bool = c.loop-state.changed in
    let after : List Bool = slice_set now i false in
    let marks : List Bool = c.mark_predecessors.new.marks in
    let next = c.mark_from-state-in-loop-state.ensures in
    let more : length after ≡ length game = length-set now i false ∙ h.changed in
    let one : AreMarkedBelow game (i + 1) changed after marks =
    marked-more game i changed now c.loop-state.marks marks h.marked m.kept m.marked in
    record {
      within = omega (arith, next.within, more);
      changed = more;
      marks = m.marks;
      marked = marked-over game (i + 1) c.mark_from-state-in-loop-state.result changed after marks one
          next.none next.order;
    }

pub returns-clause-marked : goal.returns-clause-marked
returns-clause-marked c s choice t inside changed leads = c.loop-state.invariant.marked.marked s choice t
    (omega (arith, inside, c.loop-state-test.false, c.states.ensures)) changed leads
