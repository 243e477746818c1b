use Rattle.determinacy.proofs.Bracketing.{below, above, one-value}
use Rattle.determinacy.proofs.laws.bounds_lie_on_either_side.Goals as goal

pub returns-clause-below : goal.returns-clause-below
returns-clause-below c = λ q table v posed near s inside. below q posed table v near s inside

pub returns-clause-above : goal.returns-clause-above
returns-clause-above c = λ q table v posed high s inside. above q posed table v high s inside

pub returns-clause-one : goal.returns-clause-one
returns-clause-one c = λ q v w posed s inside. one-value q posed v w s inside
