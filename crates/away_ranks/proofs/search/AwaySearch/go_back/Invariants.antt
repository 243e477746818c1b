use Rattle.std.proofs.Common.{◌≤◌}
use Rattle.away_ranks.specs.inside.Ranked.{HasGone}
use Rattle.away_ranks.specs.inside.Search.{IsAwaySearch, IsBalanced}
use Rattle.away_ranks.proofs.search.AwaySearch.go_back.Given as goal

abbrev pub invariant-loop-step : goal.invariant-loop-step
invariant-loop-step l = record {
  search : IsAwaySearch l.question l.self;
  member : HasGone l.self.gone.items l.member;
  more : l.fn.self.top ≤ l.self.top;
  balance : IsBalanced l.fn.self l.self;
}
