use Rattle.rank_certificate.proofs.Plans.{Ranked-reached}
use Rattle.rank_certificate.proofs.laws.ranked_values_are_reached.Goals as goal

pub returns : goal.returns
returns c = Ranked-reached
