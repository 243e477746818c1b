use Rattle.inductive_check.proofs.UpSteps.{IsInductive-min}
use Rattle.inductive_check.proofs.laws.the_least_of_two_is_inductive.Goals as goal

pub returns : goal.returns
returns c = IsInductive-min
