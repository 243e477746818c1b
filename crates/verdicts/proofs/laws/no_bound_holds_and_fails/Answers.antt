use Rattle.verdicts.proofs.Settled.{false-not_true}
use Rattle.verdicts.proofs.laws.no_bound_holds_and_fails.Goals as goal

pub returns : goal.returns
returns c = false-not_true
