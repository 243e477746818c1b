use Rattle.rank_certificate.specs.inside.RankLayers.{IsOpened}
use Rattle.rank_certificate.specs.inside.OfAsked.{value_in}
use Rattle.rank_certificate.proofs.layers.RankLayers.of_unneeded.Given as goal

abbrev pub invariant-loop-state : goal.invariant-loop-state
invariant-loop-state l = IsOpened l.asked.question.now (value_in l.asked) l.state l.ranks.items l.order.items
