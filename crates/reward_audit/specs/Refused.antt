-- A certificate of rewards is refused for a question because of the first fault of its text, and then of what it says.
use Rattle.std.specs.Prelude.{◌≡◌, ℕ, List, Err}
use Rattle.game_model.specs.Query.{Query, states}
use Rattle.plan_text.specs.declared.fault.PlanCause.TheVariants.{OutOfMemory}
use Rattle.plan_text.specs.Said.{fault_at}
use Rattle.reward_check.specs.Certificates.{Certificate}
use Rattle.reward_check.specs.Faults.{IsRewardFault}
use Rattle.reward_check.specs.declared.check.RewardFault.{RewardFault}
use Rattle.reward_text.specs.declared.plan.RewardPlan.{RewardPlan}
use Rattle.reward_text.specs.Said.{rewards_said}
use Rattle.reward_units.specs.Exact.{ExactRewards}
use Rattle.reward_audit.specs.declared.fault.RewardAuditFault.{RewardAuditFault}
use Rattle.reward_audit.specs.declared.fault.RewardAuditFault.TheVariants.{Text, Plan}
use Rattle.reward_audit.specs.Accepted.{IsSaid, IsCertificateOf}

-- The text has a certificate, and this is the first fault of what it says.
pub record IsFaulty (q : Query) (exact : ExactRewards) (text : List ℕ) (fault : RewardFault) : Type 0 where
  pub plan : RewardPlan
  pub read : IsSaid q text plan
  pub certificate : Certificate
  pub of_plan : IsCertificateOf q exact plan certificate
  pub first : IsRewardFault certificate fault.state fault.cause

-- This is the first fault of a text.
abbrev pub IsRefused : Query → ExactRewards → List ℕ → RewardAuditFault → Type 0
IsRefused q exact text (Text fault) = rewards_said text (states q) ≡ Err fault
IsRefused q exact text (Plan fault) = IsFaulty q exact text fault

-- Memory ran out.
abbrev pub IsOutOfMemory : RewardAuditFault → Type 0
IsOutOfMemory fault = fault ≡ Text (fault_at 0 OutOfMemory)
