use Rattle.rank_certificate.proofs.Nearness.{Ranked-near}
use Rattle.rank_certificate.proofs.laws.ranked_values_are_near.Goals as goal

pub returns : goal.returns
returns c = Ranked-near
