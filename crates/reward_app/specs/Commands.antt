-- These definitions say what a command on rewards asks of its texts: its first refusal, or that a text is not held.
use Rattle.std.specs.Prelude.{◌≡◌, ◌⊎◌, Option, None}
use Rattle.game_outside.specs.Outside.{Holding}
use Rattle.inputs.specs.Sources.{SourceWith, IfKnown}
use Rattle.reward_words.specs.Words.{AuditReward, RewardCommand, OfAuditReward, OfSolveReward}
use Rattle.reward_refusals.specs.declared.refusal.RewardRefusal.{RewardRefusal}
use Rattle.reward_inputs.specs.Posed.{RewardQuestion}
use Rattle.reward_inputs.specs.Questions.{AsksIt, RefusesRewards, LacksRewards}
use Rattle.reward_app.specs.Reports.{RefusesRewardCertificate}

-- Some texts ask a question of rewards, and this is the first refusal of the text under the name of the certificate.
pub record RefusesBehind (holding : Option Holding) (audit : AuditReward) (refusal : RewardRefusal) : Type 0 where
  pub question : RewardQuestion
  pub asked : AsksIt holding audit.asked audit.rewards question
  pub certificate : SourceWith holding audit.certificate (λ source. RefusesRewardCertificate question source refusal)

-- This is the first refusal of a command: that of the question, or else that of the certificate for an `audit`.
abbrev pub RefusesReward : Option Holding → RewardCommand → RewardRefusal → Type 0
RefusesReward holding (OfAuditReward audit) refusal =
    RefusesRewards holding audit.asked audit.rewards refusal ⊎ RefusesBehind holding audit refusal
RefusesReward holding (OfSolveReward solve) refusal = RefusesRewards holding solve.asked solve.rewards refusal

-- The question that the command names is asked by some texts, and the text under the name of the certificate is not
-- held. If the holding is known, the texts are the held ones.
pub record LacksCertificate (holding : Option Holding) (audit : AuditReward) : Type 0 where
  pub question : RewardQuestion
  pub asked : AsksIt holding audit.asked audit.rewards question
  pub lacks : IfKnown holding (λ held. held audit.certificate ≡ None)

-- If the holding is known, it lacks a text that the command needs, and the texts before that are accepted.
abbrev pub IsRewardMissing : Option Holding → RewardCommand → Type 0
IsRewardMissing holding (OfAuditReward audit) =
    LacksRewards holding audit.asked audit.rewards ⊎ LacksCertificate holding audit
IsRewardMissing holding (OfSolveReward solve) = LacksRewards holding solve.asked solve.rewards
