use Rattle.std.proofs.Common.{[]}
use Rattle.strategies.proofs.Ending.{ended, ending-posed}
use Rattle.strategies.proofs.laws.ending.plays_end.Goals as goal

pub returns-clause-posed : goal.returns-clause-posed
returns-clause-posed c = ending-posed

pub returns-clause-over : goal.returns-clause-over
returns-clause-over c = λ q lost faces k s greatest least posed up down inside.
    ended q posed lost faces greatest least up down k [] s inside
