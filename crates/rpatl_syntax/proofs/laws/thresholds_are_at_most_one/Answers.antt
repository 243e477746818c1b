use Rattle.rpatl_syntax.proofs.Mirrored.{threshold-small}
use Rattle.rpatl_syntax.proofs.laws.thresholds_are_at_most_one.Goals as goal

pub returns : goal.returns
returns c = threshold-small
