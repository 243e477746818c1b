use Rattle.rank_certificate.proofs.Plans.{Ranked-reached}
use Rattle.rank_certificate.proofs.laws.ranks_reach.Goals as goal

pub returns : goal.returns
returns c = Ranked-reached c.args.question.now c.args.values.now c.args.choices.now c.args.ranks.now
    c.invariant.ensures c.requires
