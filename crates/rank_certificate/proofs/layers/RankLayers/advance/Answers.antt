use Rattle.rank_certificate.specs.inside.OfAsked.{value_in, only_in}
use Rattle.rank_certificate.proofs.NextLayer.{followed-apart}
use Rattle.rank_certificate.proofs.layers.RankLayers.advance.Goals as goal

pub returns-then-layer-saturating_sub-clause-layers : goal.returns-then-layer-saturating_sub-clause-layers
returns-then-layer-saturating_sub-clause-layers c =
    c.in_ok-look_at_all.ensures.layers c.args.begin c.args.self.now.order.items c.requires.layers

pub returns-then-layer-saturating_sub-clause-apart : goal.returns-then-layer-saturating_sub-clause-apart
returns-then-layer-saturating_sub-clause-apart c =
    c.in_ok-look_at_all.ensures.apart c.args.begin c.args.self.now.order.items c.requires.layers

pub returns-clause-apart : goal.returns-clause-apart
returns-clause-apart c s inside =
    followed-apart c.args.asked.now.question.now (value_in c.args.asked.now) (only_in c.args.asked.now) c.args.level
    c.args.begin c.args.self.now.order.items _ _ _ c.args.asked.now.posed c.requires.positive
    c.in_ok-spread.ensures.layers c.in_ok-spread.ensures.followed s inside
