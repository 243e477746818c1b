use Rattle.verdicts.proofs.Staying.{settled-on}
use Rattle.verdicts.proofs.laws.settled_thresholds_stay_settled.Goals as goal

pub returns : goal.returns
returns c = settled-on
