use Rattle.rank_certificate.proofs.Nearness.{Ranked-near}
use Rattle.rank_certificate.proofs.laws.ranked_is_near.Goals as goal

pub returns : goal.returns
returns c = Ranked-near c.args.question.now c.args.values.now c.args.choices.now c.args.ranks.now
    c.invariant.ensures c.requires
