use Rattle.verdicts.proofs.Mirrored.{mirrored}
use Rattle.verdicts.proofs.laws.mirrored_verdicts_are_those_of_the_dual.Goals as goal

pub returns : goal.returns
returns c = mirrored
