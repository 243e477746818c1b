use Rattle.std.proofs.Common.{◌-◌}
use Rattle.game_model.specs.Query.{states}
use Rattle.away_ranks.specs.inside.Search.{IsAwaySearch}
use Rattle.away_ranks.proofs.away_ranks.Given as goal

abbrev pub invariant-loop-search : goal.invariant-loop-search
invariant-loop-search l = IsAwaySearch l.question l.search

abbrev pub decreases-loop-search : goal.decreases-loop-search
decreases-loop-search l = states l.question - l.search.top
