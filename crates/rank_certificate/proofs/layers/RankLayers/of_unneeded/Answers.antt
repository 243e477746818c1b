use Rattle.std.proofs.Common.{ap, ◌∙◌}
use Rattle.std.proofs.lemmas.Bool.{both_ways}
use Rattle.rank_certificate.proofs.Found.{Opened-needs-in, Opened-free-in}
use Rattle.rank_certificate.specs.inside.OfAsked.{value_in}
use Rattle.rank_certificate.proofs.layers.RankLayers.of_unneeded.Goals as goal
use Rattle.rank_certificate.proofs.layers.RankLayers.of_unneeded.Goals.{then-needs_rank+in_ok-push}
use Rattle.rank_certificate.proofs.layers.RankLayers.of_unneeded.Goals.{else-needs_rank+in_ok-push-2+in_ok-push-3}

pub loop-state-preserved : goal.loop-state-preserved
loop-state-preserved c = elim c.if-needs_rank.branch [
  | then-needs_rank+in_ok-push w ↦
      Opened-needs-in c.args.asked.now.question.now (value_in c.args.asked.now) c.loop-state.state
      _ _ c.loop-state.invariant _ _ (c.needs_rank.ensures.0 w.if-needs_rank.true)
      (ap (λ v. v.items) w.ranks-is ∙ w.in_ok-push.ensures.items) (ap (λ v. v.items) w.order-is)
  | else-needs_rank+in_ok-push-2+in_ok-push-3 w ↦
      Opened-free-in c.args.asked.now.question.now
      (value_in c.args.asked.now) c.loop-state.state _ _ c.loop-state.invariant _ _
      (λ needs. both_ways c.needs_rank.result w.if-needs_rank.false (c.needs_rank.ensures.1 needs))
      (ap (λ v. v.items) w.ranks-is ∙ w.in_ok-push-2.ensures.items)
      (ap (λ v. v.items) w.order-is ∙ w.in_ok-push-3.ensures.items)
]
