-- This module says which refusals loading hands out.
use Rattle.std.specs.Prelude.{◌≢◌}
use Rattle.plan_text.specs.declared.fault.PlanCause.TheVariants as plan
use Rattle.output.specs.Caused.{IsCaused}
use Rattle.output.specs.declared.refusal.Refusal.{Refusal}
use Rattle.output.specs.declared.refusal.Refusal.TheVariants as shared
use Rattle.reward_refusals.specs.declared.refusal.RewardRefusal.{RewardRefusal}
use Rattle.reward_refusals.specs.declared.refusal.RewardRefusal.TheVariants.{Shared, OfRewards, RewardsTooLong}
use Rattle.reward_refusals.specs.declared.refusal.RewardRefusal.TheVariants.{OfCertificateText, OfCertificate}

-- The refusal is none of a certificate of probabilities, nor of values to begin with.
abbrev pub IsShared : Refusal → Type 0
IsShared (shared.OfCertificate fault) = ⊥
IsShared (shared.OfValues fault) = ⊥
IsShared refusal = Unit {0}

-- What was given is at fault, and not memory. A run with rewards has no certificate of probabilities, and no values to
-- begin with.
abbrev pub IsRewardCaused : RewardRefusal → Type 0
IsRewardCaused (Shared refusal) = IsShared refusal × IsCaused refusal
IsRewardCaused (OfRewards fault) = Unit {0}
IsRewardCaused RewardsTooLong = Unit {0}
IsRewardCaused (OfCertificateText fault) = fault.cause ≢ plan.OutOfMemory
IsRewardCaused (OfCertificate fault) = Unit {0}
