use Rattle.away_ranks.proofs.Joining.{leads-back}
use Rattle.away_ranks.proofs.search.AwaySearch.go_back.Goals as goal

pub follow-requires-clause-leads : goal.follow-requires-clause-leads
follow-requires-clause-leads c =
    leads-back c.args.question.now c.args.predecessors.now c.loop-step.self.gone.items c.args.member
    c.loop-step.step-index c.of_state-step-items.result.now _ c.requires.lists
    c.loop-step.invariant.search.ranked.many c.loop-step.invariant.member c.of_state-step-items.ensures
    c.loop-step-test.true
