-- This module defines which certificates are accepted for a question, and what they prove.
use Rattle.std.specs.Prelude.{ℕ, ◌≤◌, List, slice_index, All}
use Rattle.game_model.specs.Query.{Query, states}
use Rattle.game_model.specs.Limits.{unit}
use Rattle.game_model.specs.Bounds.{IsHigh}
use Rattle.game_model.specs.Rounded.{IsInductive}
use Rattle.game_model.specs.Ranks.{Ranked}
use Rattle.strategies.specs.Strategies.{HoldsAgainstAll, ReachesAgainstAll}
use Rattle.inductive_check.specs.Replies.{AreReplies}
use Rattle.plan_text.specs.declared.plan.Plan.{Plan}
use Rattle.plan_text.specs.Entries.{HasStates, entries_of}
use Rattle.plan_text.specs.Certificate.{IsCertificate}

-- The text has a certificate for the states of the question, and its entries are those of the plan.
pub record IsSaid (q : Query) (text : List ℕ) (plan : Plan) : Type 0 where
  pub lists : HasStates plan (states q)
  pub said : IsCertificate text (entries_of plan)

-- The upper table is inductive, the replies are held to it, and the choices and ranks prove the lower table.
pub record Passes (q : Query) (plan : Plan) : Type 0 where
  pub units : All (λ v. v ≤ unit) plan.upper.items
  pub inductive : IsInductive q (slice_index plan.upper.items)
  pub replies : AreReplies q (slice_index plan.upper.items) plan.replies.items
  pub ranked : Ranked q plan.lower.items plan.choices.items plan.ranks.items

-- The text has a certificate with this plan, and the plan passes.
pub record IsAccepted (q : Query) (text : List ℕ) (plan : Plan) : Type 0 where
  pub read : IsSaid q text plan
  pub passes : Passes q plan

-- The plan is sound. Each entry of its upper table is at least every k-step value. Its replies hold every strategy of
-- the maximiser to the upper table. Its choices reach its lower table, less any 1/m, against every strategy of the
-- minimiser.
pub record IsSoundPlan (q : Query) (plan : Plan) : Type 0 where
  pub high : IsHigh q (slice_index plan.upper.items)
  pub held : HoldsAgainstAll q plan.replies.items (slice_index plan.upper.items)
  pub reached : ReachesAgainstAll q plan.choices.items (slice_index plan.lower.items)
