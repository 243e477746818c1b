use Rattle.determinacy.proofs.Holding.{questions-have_values}
use Rattle.determinacy.proofs.laws.questions_have_values.Goals as goal

pub returns : goal.returns
returns c = questions-have_values
