use Rattle.attractors.proofs.Testing.{AreTested-more}
use Rattle.attractors.proofs.Closing.{longer-more}
use Rattle.attractors.proofs.attractor.test_all.Goals as goal

pub loop-state-preserved : goal.loop-state-preserved
loop-state-preserved g c =
    let q = c.args.question.now in
    record {
      longer = longer-more _ _ _ c.loop-state.invariant.longer c.in_ok-test.ensures.longer;
      larger = λ s member. c.in_ok-test.ensures.larger s (c.loop-state.invariant.larger s member);
      grown = c.in_ok-test.ensures.grows;
      tested = AreTested-more q (g.S.Excluded.excluded c.args.excluded.now q) c.args.search.now.members.items
          c.loop-state.search.members.items c.test.new.self.members.items c.loop-state.search.next_choice.items
          c.test.new.self.next_choice.items c.loop-state.state
          c.loop-state.invariant.larger c.in_ok-test.ensures.larger c.loop-state.invariant.tested
          c.in_ok-test.ensures.others c.in_ok-test.ensures.tested;
    }
