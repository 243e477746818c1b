use Rattle.std.proofs.Common.{◌≡◌, ◌++◌, List, take, subst}
use Rattle.std.specs.Prelude.{slice_index}
use Rattle.std.proofs.lemmas.List.{get_or_read}
use Rattle.predecessors.specs.declared.lists.Move.{Move}
use Rattle.attractors.specs.Search.{IsAttractorSearch, moves_into}
use Rattle.attractors.proofs.Closing.{leads-in, longer-more, take-one}
use Rattle.attractors.proofs.attractor.go_back.Goals as goal

pub follow-requires-clause-leads : goal.follow-requires-clause-leads
follow-requires-clause-leads g c =
    let member : c.index-member.result.now ≡ slice_index c.args.search.now.order.items c.args.place =
    get_or_read c.args.search.now.order.items _ _ c.requires.place c.index-member.ensures 0 in
    leads-in c.args.question.now.game c.args.predecessors.now c.loop-step.search.members.items
    c.args.search.now.order.items c.loop-step.search.order.items c.args.place c.index-member.result.now
    c.loop-step.step-index c.of_state-step-items.result.now _
    c.requires.lists c.loop-step.invariant.grown.many c.loop-step.invariant.grown.ordered c.loop-step.invariant.longer
    c.requires.place member c.of_state-step-items.ensures c.loop-step-test.true

pub loop-step-preserved : goal.loop-step-preserved
loop-step-preserved g c = record {
  longer = longer-more _ _ _ c.loop-step.invariant.longer c.in_ok-follow.ensures.longer;
  grown =
      let before : List Move = moves_into c.args.predecessors.now (take c.args.place c.args.search.now.order.items) in
      subst (λ (followed : List Move).
      IsAttractorSearch c.args.question.now (g.S.Excluded.excluded c.args.excluded.now c.args.question.now) followed
      c.follow.new.self.members.items c.follow.new.self.next_choice.items c.follow.new.self.order.items)
      (take-one before c.of_state-step-items.result.now c.loop-step.step-index _ c.loop-step-test.true)
      (c.in_ok-follow.ensures.grows (before ++ take c.loop-step.step-index c.of_state-step-items.result.now)
      c.loop-step.invariant.grown);
}
