use Rattle.std.proofs.Common.{◌≤◌, ◌+◌, ◌-◌, length}
use Rattle.game_model.specs.Query.{states}
use Rattle.away_ranks.specs.inside.Ranked.{how_many}
use Rattle.away_ranks.specs.inside.Search.{IsAwaySearch}
use Rattle.away_ranks.proofs.search.AwaySearch.sink.Given as goal

abbrev pub invariant-loop-member : goal.invariant-loop-member
invariant-loop-member l = record {
  search : IsAwaySearch l.question l.self;
  more : l.fn.self.top ≤ l.self.top;
}

-- the states that have not gone, and those that are still to be followed
abbrev pub decreases-loop-member : goal.decreases-loop-member
decreases-loop-member l = states l.question - how_many l.self.gone.items + length l.self.todo.items
