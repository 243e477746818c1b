use Rattle.strategies.proofs.Ways.{ways-are}
use Rattle.strategies.proofs.laws.reach.reach_counts_ways.Goals as goal

pub returns : goal.returns
returns c = λ q faces k s greatest least posed up down inside. ways-are q posed faces greatest least up down k s inside
