-- A plan that passes is right.
use Rattle.std.specs.Prelude.{slice_index}
use Rattle.game_model.specs.Query.{Query, IsQuery}
use Rattle.game_model.proofs.Choices.{AreChoicesOf-choices_of}
use Rattle.game_laws.proofs.High.{IsHigh-up_step}
use Rattle.strategies.proofs.Plans.{plan-holds, plan-reaches}
use Rattle.inductive_check.proofs.Holding.{HoldsUnder-replies}
use Rattle.rank_certificate.proofs.Plans.{Ranked-reached}
use Rattle.plan_text.specs.declared.plan.Plan.{Plan}
use Rattle.certificate_audit.specs.Accepted.{Passes, IsSoundPlan}

pub sound : (q : Query) (plan : Plan) → IsQuery q → Passes q plan → IsSoundPlan q plan
sound q plan posed passes = record {
  high = IsHigh-up_step q (slice_index plan.upper.items) (AreChoicesOf-choices_of q.game posed.game) passes.inductive;
  held = plan-holds q plan.replies.items (slice_index plan.upper.items) posed
      (HoldsUnder-replies q (slice_index plan.upper.items) plan.replies.items posed passes.inductive passes.replies);
  reached = plan-reaches q plan.choices.items (slice_index plan.lower.items) posed
      (Ranked-reached q plan.lower.items plan.choices.items plan.ranks.items posed passes.ranked);
}
