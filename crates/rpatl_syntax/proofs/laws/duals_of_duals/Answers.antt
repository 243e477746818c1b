use Rattle.rpatl_syntax.proofs.Mirrored.{dual-dual}
use Rattle.rpatl_syntax.proofs.laws.duals_of_duals.Goals as goal

pub returns : goal.returns
returns c = dual-dual
