use Rattle.std.proofs.Common.{◌≡◌, ℕ, slice_index, length, drop, arith, refl, ap, subst, ◌∙◌, List}
use Rattle.std.proofs.lemmas.List.{length-map, take_at}
use Rattle.fixed_bellman.specs.declared.bounds.Bounds.{Bounds}
use Rattle.fixed_bellman.specs.Bounds.{lowers}
use Rattle.game_model.specs.Query.{states}
use Rattle.bounded_rounds.specs.inside.Parts.{IsStepped}
use Rattle.bounded_rounds.specs.Steps.{steps_from}
use Rattle.bounded_rounds.proofs.Parts.{IsSweep-next, IsSweep-rests, IsBoundsTable-step}
use Rattle.bounded_rounds.proofs.sweep.iterate.Goals as goal

pub loop-done-init : goal.loop-done-init
unfolding steps_from
loop-done-init g c = record {
  sweep = record {
    lowers = length-map c.args.table.items (λ (b : Bounds). b.lower) ∙ c.requires.table.many;
    uppers = length-map c.args.table.items (λ (b : Bounds). b.upper) ∙ c.requires.table.many;
    down = λ s inside. refl;
    up = λ s inside. ap (λ (xs : List ℕ). slice_index xs s) c.requires.same;
  };
  table = c.requires.table;
  next = c.requires.next;
  used = c.requires.workers;
}

pub returns-then-not-step-clause-sweep : goal.returns-then-not-step-clause-sweep
returns-then-not-step-clause-sweep g c =
    let more = c.loop-done-test.true in
    let q = c.args.question.now in
    let stepped = subst (λ (t : List Bounds). IsStepped q t 0 (states q) c.step.new.next c.step.result)
    c.deref.ensures.value c.step.ensures in
    IsSweep-rests q (slice_index (lowers c.args.table.items)) c.loop-done._done c.args.steps c.loop-done.table.items
    c.step.new.next c.step.result c.invariant.ensures
    (omega arith) c.loop-done.invariant.sweep stepped c.if-not-step.true

pub loop-done-preserved : goal.loop-done-preserved
loop-done-preserved g c =
    let q = c.args.question.now in
    let h = c.loop-done.invariant in
    let next : List Bounds = c.step.new.next in
    let many : length next ≡ states q = omega (arith, c.step.auto.next, c.deref_mut.ensures.value, h.next) in
    let stepped =
    subst (λ (t : List Bounds). IsStepped q t 0 (states q) next c.step.result) c.deref.ensures.value c.step.ensures in
    let back = take_at next (drop (length next) c.loop-done.next.items) c.loop-done.next.len
    (omega (arith, many, h.next, c.loop-done.next.ok)) in
    rw (c.swap.ensures.x_after, c.swap.ensures.y_after, back) record {
      sweep = IsSweep-next q (slice_index (lowers c.args.table.items)) c.loop-done._done c.loop-done.table.items next
          c.step.result c.invariant.ensures h.sweep many stepped;
      table = IsBoundsTable-step q c.loop-done.table.items next c.step.result many stepped;
      next = h.table.many;
      used = c.busy_workers-used.ensures.some;
    }
