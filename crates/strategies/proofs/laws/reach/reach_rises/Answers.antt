use Rattle.strategies.proofs.Rises.{reach-rises, reach-within}
use Rattle.strategies.proofs.laws.reach.reach_rises.Goals as goal

pub returns-clause-rises : goal.returns-clause-rises
returns-clause-rises c = λ q faces k s greatest least. reach-rises q faces greatest least k s

pub returns-clause-within : goal.returns-clause-within
returns-clause-within c =
    λ q faces k s greatest least posed up down inside. reach-within q faces greatest least posed up down k s inside
