use Rattle.determinacy.proofs.Bracketing.{reached-from, reached-to, exceeded-from, exceeded-to}
use Rattle.determinacy.proofs.laws.values_decide_thresholds.Goals as goal

pub returns-clause-reached : goal.returns-clause-reached
returns-clause-reached c =
    λ q v a b s posed inside. (reached-to q posed v a b s inside, reached-from q posed v a b s inside)

pub returns-clause-exceeded : goal.returns-clause-exceeded
returns-clause-exceeded c =
    λ q v a b s posed inside. (exceeded-to q posed v a b s inside, exceeded-from q posed v a b s inside)
