-- This module says what the bounds of a plan decide.
use Rattle.std.specs.Prelude.{◌≡◌, ℕ, ◌<◌, ◌↔◌, slice_index}
use Rattle.game_model.specs.Query.{Query, states}
use Rattle.game_model.specs.Values.{numerator}
use Rattle.game_model.specs.Limits.{unit}
use Rattle.almost_sure.specs.Values.{IsAlmostSure}
use Rattle.inductive_check.specs.Replies.{AreFirstReplies}
use Rattle.rank_certificate.specs.Carrying.{IsLayeredPlan}
use Rattle.plan_text.specs.declared.plan.Plan.{Plan}
use Rattle.plan_text.specs.Entries.{HasStates}
use Rattle.certificate_audit.specs.Accepted.{Passes, IsSoundPlan}

-- The lower bound is 1 exactly at the almost-sure states, and the upper bound is 1 there.
pub record IsSureExactly (q : Query) (plan : Plan) : Type 0 where
  pub lower : (s : ℕ) → s < states q → (slice_index plan.lower.items s ≡ unit) ↔ IsAlmostSure q s
  pub upper : (s : ℕ) → s < states q → IsAlmostSure q s → slice_index plan.upper.items s ≡ unit

-- Every k-step value of the state is 0.
abbrev pub IsNever : Query → ℕ → Type 0
IsNever q s = (k : ℕ) → numerator q k s ≡ 0

-- The upper bound is 0 exactly at the states of value 0, and the lower bound is 0 there.
pub record IsZeroExactly (q : Query) (plan : Plan) : Type 0 where
  pub upper : (s : ℕ) → s < states q → (slice_index plan.upper.items s ≡ 0) ↔ IsNever q s
  pub lower : (s : ℕ) → s < states q → IsNever q s → slice_index plan.lower.items s ≡ 0

-- The plan of a question passes an audit and is sound. Its bounds say exactly which states are almost sure and which
-- have value 0. For these bounds, its ranks are the least, and its choices and replies the first.
pub record IsSolvedPlan (q : Query) (plan : Plan) : Type 0 where
  pub lists : HasStates plan (states q)
  pub passes : Passes q plan
  pub sound : IsSoundPlan q plan
  pub sure : IsSureExactly q plan
  pub zero : IsZeroExactly q plan
  pub choices : IsLayeredPlan q plan.lower.items plan.choices.items plan.ranks.items
  pub replies : AreFirstReplies q (slice_index plan.upper.items) plan.replies.items
