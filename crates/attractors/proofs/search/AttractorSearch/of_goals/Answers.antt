use Rattle.std.proofs.Common.{◌≡◌, length, replicate, arith, rules, ap, ◌∙◌}
use Rattle.std.proofs.lemmas.List.{length_push}
use Rattle.game_model.specs.Query.{states, is_goal}
use Rattle.attractors.proofs.Ordering.{IsOrder-left-in, IsOrder-member-in, each-more}
use Rattle.attractors.proofs.Closing.{IsAttractorSearch-goals}
use Rattle.attractors.proofs.search.AttractorSearch.of_goals.Goals as goal
use Rattle.attractors.proofs.search.AttractorSearch.of_goals.Goals.{then-goal+in_ok-push-2, else-goal}

pub loop-state-preserved : goal.loop-state-preserved
loop-state-preserved c = record {
  many = omega (
    arith,
    ap length c.in_ok-push.ensures.items,
    length_push c.loop-state.members.items c.is_goal-goal.result,
    c.loop-state.invariant.many,
  );
  each = each-more (is_goal c.args.question.now) c.loop-state.members.items c.push.new.self.items c.is_goal-goal.result
      c.loop-state.state c.loop-state.invariant.many c.loop-state.invariant.each c.is_goal-goal.ensures
      c.in_ok-push.ensures.items;
  ordered = elim c.if-goal.branch [
    | then-goal+in_ok-push-2 w ↦
        IsOrder-member-in _ _ _ _ _ c.loop-state.state c.loop-state.invariant.ordered
        w.if-goal.true c.in_ok-push.ensures.items c.loop-state.invariant.many
        (ap (λ v. v.items) w.order-is ∙ w.in_ok-push-2.ensures.items)
    | else-goal w ↦ IsOrder-left-in _ _ _ _ _ c.loop-state.invariant.ordered w.if-goal.false c.in_ok-push.ensures.items
        (ap (λ v. v.items) w.order-is)
  ];
}

pub returns : goal.returns
returns c =
    let many : c.states-states.result ≡ states c.args.question.now =
    c.states-states.ensures ∙ ap length c.game.ensures in
    let all : c.loop-state.state ≡ states c.args.question.now = omega (arith, many) in
    let first : c.in_ok-next_choice.next_choice.items ≡ replicate c.states-states.result 0 = search rules in
    λ excluded. IsAttractorSearch-goals c.args.question.now excluded c.loop-state.members.items
    c.in_ok-next_choice.next_choice.items
    c.loop-state.order.items c.invariant.ensures
    (record { many = c.loop-state.invariant.many ∙ all; each = λ s l. c.loop-state.invariant.each s (omega arith) })
    c.loop-state.invariant.ordered (first ∙ ap (λ n. replicate n 0) many)
