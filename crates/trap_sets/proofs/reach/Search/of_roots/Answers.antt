use Rattle.std.proofs.Common.{◌≡◌, ◌+◌, length, arith, refl, ap, ◌∙◌}
use Rattle.std.specs.Prelude.{slice_index, ◌==◌}
use Rattle.std.proofs.lemmas.Bool.{eq-eqb, ne_eqb}
use Rattle.std.proofs.lemmas.List.{length_push}
use Rattle.attractors.proofs.Ordering.{IsOrder-left-in, IsOrder-member-in, each-more}
use Rattle.trap_sets.proofs.Reaching.{IsReaching-roots}
use Rattle.trap_sets.proofs.reach.Search.of_roots.Goals as goal
use Rattle.trap_sets.proofs.reach.Search.of_roots.Goals.{then-is_root+in_ok-push-2, else-is_root}

pub loop-state-preserved : goal.loop-state-preserved
loop-state-preserved c = record {
  many = omega (
    arith,
    ap length c.in_ok-push.ensures.items,
    length_push c.loop-state.marks.items
        (slice_index c.args.internal.now.part.now c.loop-state.state == c.loop-state.state + 1),
    c.loop-state.invariant.many,
  );
  each = each-more (λ s. slice_index c.args.internal.now.part.now s == s + 1) c.loop-state.marks.items
      c.push.new.self.items (slice_index c.args.internal.now.part.now c.loop-state.state == c.loop-state.state + 1)
      c.loop-state.state c.loop-state.invariant.many c.loop-state.invariant.each refl c.in_ok-push.ensures.items;
  ordered = elim c.if-is_root.branch [
    | then-is_root+in_ok-push-2 w ↦
        IsOrder-member-in _ _ _ _ _ c.loop-state.state c.loop-state.invariant.ordered
        (eq-eqb _ _ w.if-is_root.true) c.in_ok-push.ensures.items c.loop-state.invariant.many
        (ap (λ v. v.items) w.order-is ∙ w.in_ok-push-2.ensures.items)
    | else-is_root w ↦ IsOrder-left-in _ _ _ _ _ c.loop-state.invariant.ordered
        (ne_eqb _ _ w.if-is_root.false)
        c.in_ok-push.ensures.items (ap (λ v. v.items) w.order-is)
  ];
}

pub returns : goal.returns
returns c =
    let all : c.loop-state.state ≡ length c.args.internal.now.mdp.question.now.game =
    omega (arith, c.loop-state-test.false, c.states-states.ensures, ap length c.game.ensures) in
    λ way. IsReaching-roots c.args.internal.now way c.loop-state.marks.items c.loop-state.order.items
    (c.loop-state.invariant.many ∙ all) (λ s ls. c.loop-state.invariant.each s (omega (arith, ls, all)))
    c.loop-state.invariant.ordered
