use Rattle.verdicts.proofs.Opening.{open-here, open-wider}
use Rattle.verdicts.proofs.laws.undecided_thresholds_are_left_open.Goals as goal

pub returns-clause-here : goal.returns-clause-here
returns-clause-here c = open-here

pub returns-clause-wider : goal.returns-clause-wider
returns-clause-wider c = open-wider
