use Rattle.rpatl_syntax.proofs.Mirrored.{rest-meets}
use Rattle.rpatl_syntax.proofs.laws.rests_meet_duals.Goals as goal

pub returns : goal.returns
returns c = rest-meets
