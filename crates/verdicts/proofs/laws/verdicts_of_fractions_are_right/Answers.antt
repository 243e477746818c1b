use Rattle.verdicts.proofs.Fractions.{right}
use Rattle.verdicts.proofs.laws.verdicts_of_fractions_are_right.Goals as goal

pub returns : goal.returns
returns c = right
