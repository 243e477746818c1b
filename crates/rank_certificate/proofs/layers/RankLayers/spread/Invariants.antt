use Rattle.rank_certificate.specs.inside.OfAsked.{AreRankLayersIn, AreFollowedIn}
use Rattle.rank_certificate.proofs.layers.RankLayers.spread.Given as goal

abbrev pub invariant-loop-place : goal.invariant-loop-place
invariant-loop-place l = record {
  layers : AreRankLayersIn l.asked l.level l.begin l.fn.self.order.items l.self;
  followed : AreFollowedIn l.asked l.level l.fn.self.order.items l.begin l.place l.self;
}
