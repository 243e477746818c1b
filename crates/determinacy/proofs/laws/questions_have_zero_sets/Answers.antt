use Rattle.determinacy.proofs.Zeros.{questions-have_zero_sets, marked-zero, zero-marked}
use Rattle.determinacy.proofs.laws.questions_have_zero_sets.Goals as goal

pub returns-clause-exists : goal.returns-clause-exists
returns-clause-exists c = questions-have_zero_sets

pub returns-clause-value : goal.returns-clause-value
returns-clause-value c =
    λ q v zero s posed is inside. (marked-zero q posed v zero is s inside, zero-marked q posed v zero is s inside)
