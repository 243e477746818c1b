use Rattle.away_ranks.specs.inside.Search.{HasLetGo}
use Rattle.away_ranks.proofs.search.AwaySearch.let_go.Given as goal

abbrev pub invariant-loop-state : goal.invariant-loop-state
invariant-loop-state l = HasLetGo l.left l.rank l.state l.more l.fn.self l.self
