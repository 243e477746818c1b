use Rattle.rank_certificate.specs.inside.OfAsked.{value_in, only_in}
use Rattle.rank_certificate.proofs.Followed.{Follows-look}
use Rattle.rank_certificate.proofs.layers.RankLayers.follow.Goals as goal

pub returns-in_ok-look-in-Min : goal.returns-in_ok-look-in-Min
returns-in_ok-look-in-Min c =
    let a = c.args.asked.now in
    Follows-look a.question.now (value_in a)
    (only_in a) c.args.level c.args.hand c.args.step _ _ _ _ _ _ a.posed c.requires.state c.in_ok-look-in-Min.ensures
