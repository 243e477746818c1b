-- These definitions say what is reported to words of a command on rewards.
use Rattle.std.specs.Prelude.{◌≤◌, ℕ, List, Option}
use Rattle.text_lines.specs.Limits.{most_bytes}
use Rattle.game_outside.specs.Outside.{Holding}
use Rattle.command_words.specs.Words.{Asked}
use Rattle.inputs.specs.Sources.{SourceWith}
use Rattle.inputs.specs.Asks.{GivenTextWith}
use Rattle.output.specs.declared.status.Status.{Status}
use Rattle.reward_words.specs.Words.{AuditReward, SolveReward, RewardCommand, OfAuditReward, OfSolveReward}
use Rattle.reward_words.specs.Words.{AreRewardCommand}
use Rattle.reward_inputs.specs.Posed.{RewardQuestion}
use Rattle.reward_inputs.specs.Questions.{AsksIt}
use Rattle.reward_app.specs.Reports.{IsRewardAudit, IsRewardSolved}

-- The words denote this command, and some texts ask its question. If the holding is known, these are the texts that are
-- held. At most `most_bytes` bytes were taken from the last text.
pub record RewardWordsAsk (words : List (List ℕ)) (holding : Option Holding) (taken : ℕ) (command : RewardCommand)
    (asked : Asked) (rewards : List ℕ) (question : RewardQuestion) : Type 0 where
  pub denoted : AreRewardCommand words command
  pub asks : AsksIt holding asked rewards question
  pub short : taken ≤ most_bytes

-- The text and the status are the report of the command on rewards that the words denote.
pub data IsRewardReportOfWords (words : List (List ℕ)) (holding : Option Holding) (taken : ℕ) (text : List ℕ)
    (status : Status) : Type 0 where
  -- `audit` reports the values of a certificate that the question accepts, from the text under its name.
  of_audit : (audit : AuditReward) (question : RewardQuestion)
      → RewardWordsAsk words holding taken (OfAuditReward audit) audit.asked audit.rewards question
      → SourceWith holding audit.certificate
      (λ source. GivenTextWith source (λ bytes. IsRewardAudit question bytes text status))
      → IsRewardReportOfWords words holding taken text status
  -- `solve` reports the values of a certificate that the tables of a solver led to.
  of_solve : (solve : SolveReward) (question : RewardQuestion)
      → RewardWordsAsk words holding taken (OfSolveReward solve) solve.asked solve.rewards question
      → IsRewardSolved question solve.plan text status → IsRewardReportOfWords words holding taken text status
