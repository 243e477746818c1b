use Rattle.std.proofs.Common.{take}
use Rattle.rank_certificate.specs.inside.OfAsked.{FollowsIn}
use Rattle.rank_certificate.proofs.layers.RankLayers.go_back.Given as goal

abbrev pub invariant-loop-step : goal.invariant-loop-step
invariant-loop-step l = FollowsIn l.asked l.level l.hand (take l.step-index l.step-items) l.fn.self l.self
