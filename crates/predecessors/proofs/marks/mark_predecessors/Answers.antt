use Rattle.std.proofs.Common.{ℕ, ◌<◌, Bool, List, length, arith, inl, inr, subst, sym, ◌∙◌, true, slice_index_or}
use Rattle.std.specs.Prelude.{slice_set}
use Rattle.std.proofs.lemmas.Bool.{cases_eq}
use Rattle.std.proofs.lemmas.List.{length-set}
use Rattle.predecessors.specs.Moves.{move, LeadsTo}
use Rattle.predecessors.specs.Marks.{IsMarked}
use Rattle.predecessors.proofs.Marking.{predecessor-inside, predecessor-leads, all-marked, mark-kept, mark-set}
use Rattle.predecessors.proofs.Marking.{mark-only}
use Rattle.predecessors.proofs.marks.mark_predecessors.Goals as goal

pub bounds-marks-step : goal.bounds-marks-step
bounds-marks-step c =
    let within = predecessor-inside c.args.game.now c.args.predecessors.now c.of_state-step-items.result.now
    c.args.state c.loop-step.step-index c.requires.predecessors c.requires.state c.of_state-step-items.ensures
    c.loop-step-test.true in
    let many = c.loop-step.invariant.many in
    omega arith

pub loop-step-preserved : goal.loop-step-preserved
loop-step-preserved c =
    let h = c.loop-step.invariant in
    let i = c.loop-step.step-index in
    let items = c.of_state-step-items.result.now in
    let marks : List Bool = c.loop-step.marks in
    let place : ℕ = (slice_index_or items i (move 0 0)).state in
    let within = predecessor-inside c.args.game.now c.args.predecessors.now items c.args.state i c.requires.predecessors
    c.requires.state c.of_state-step-items.ensures c.loop-step-test.true in
    let hand : ℕ = (slice_index_or items i (move 0 0)).choice in
    let leads = predecessor-leads c.args.game.now c.args.predecessors.now items c.args.state i c.requires.predecessors
    c.requires.state c.of_state-step-items.ensures c.loop-step-test.true in
    let inside : place < length marks = omega (arith, within, h.many) in
    record {
      many = length-set marks place true ∙ h.many;
      kept = λ s marked. mark-kept marks place s inside (h.kept s marked);
      only = λ s marked. elim (mark-only marks place s marked) [
        | inl same ↦ inr (hand, subst (λ (u : ℕ). LeadsTo c.args.game.now u hand c.args.state) (sym same) leads)
        | inr old ↦ h.only s old
      ];
      marked = λ k below. elim (cases_eq k i) [
        | inl same ↦ subst (λ (j : ℕ). IsMarked (slice_set marks place true) (slice_index_or items j (move 0 0)).state)
            (sym same) (mark-set marks place inside)
        | inr other ↦ mark-kept marks place (slice_index_or items k (move 0 0)).state inside (h.marked k (omega arith))
      ];
    }

pub returns-clause-marked : goal.returns-clause-marked
returns-clause-marked c s choice leads =
    all-marked c.args.game.now c.args.predecessors.now c.of_state-step-items.result.now c.loop-step.marks c.args.state s
    choice c.requires.predecessors c.requires.state c.of_state-step-items.ensures
    (λ k below. c.loop-step.invariant.marked k (omega (arith, below, c.loop-step-test.false))) leads
