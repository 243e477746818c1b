-- These definitions say how a run on rewards ends, what it has written then, and what it has asked of its shelf.
use Rattle.std.specs.Prelude.{◌≡◌, ◌<◌, ◌≤◌, ◌+◌, ◌⊎◌, ℕ, Bool, true, List, Option, Some, Result, Ok, Err}
use Rattle.text_lines.specs.Limits.{most_bytes}
use Rattle.fractions.specs.Fraction.{Fraction}
use Rattle.game_outside.specs.Limits.{piece_size}
use Rattle.game_outside.specs.Outside.{Holding, Rose, KeepsShelf}
use Rattle.output.specs.declared.answer.Answer.{Answer}
use Rattle.output.specs.declared.status.Status.{Status}
use Rattle.output.specs.declared.status.Status.TheVariants.{Fine, SomeFalse, SomeUndecided, Usage, ModelRefused}
use Rattle.output.specs.declared.status.Status.TheVariants.{ReadFault, WriteFault, OutOfMemory, CertificateRefused}
use Rattle.stogame_app.specs.Run.{Writes, WritesFront}
use Rattle.inputs.specs.Asks.{GivenTextWith}
use Rattle.reward_check.specs.Certificates.{Certificate}
use Rattle.reward_text.specs.declared.plan.RewardPlan.{RewardPlan}
use Rattle.reward_audit.specs.Accepted.{IsAcceptedText}
use Rattle.reward_words.specs.Words.{RewardCommand, AreRewardCommand, DenoteRewardCommand}
use Rattle.reward_words.specs.Words.{OfAuditReward, OfSolveReward}
use Rattle.reward_refusals.specs.declared.refusal.RewardRefusal.{RewardRefusal}
use Rattle.reward_refusals.specs.Caused.{IsRewardCaused}
use Rattle.reward_refusals.specs.Printable.{RewardRefusalPrintable}
use Rattle.reward_refusals.specs.Refusals.{reward_refusal_text}
use Rattle.reward_refusals.specs.Status.{reward_status}
use Rattle.reward_inputs.specs.declared.end.RewardEnd.{RewardEnd}
use Rattle.reward_inputs.specs.declared.end.RewardEnd.TheVariants as end
use Rattle.reward_inputs.specs.Loading.{IsLongRefusal}
use Rattle.reward_inputs.specs.Posed.{RewardQuestion}
use Rattle.reward_inputs.specs.Questions.{AsksIt}
use Rattle.reward_app.specs.Commands.{RefusesReward, IsRewardMissing}
use Rattle.reward_app.specs.Reports.{HasRewardsOf, exact_by}
use Rattle.reward_app.specs.OfWords.{IsRewardReportOfWords}

-- 1. What is written.

-- The words denote a command of which this is the first refusal, and its cause is not that memory ran out. It says that
-- a text is too long exactly if more than `most_bytes` bytes were taken from the last text.
pub record RefusesRewardWords (words : List (List ℕ)) (holding : Option Holding) (taken : ℕ)
    (refusal : RewardRefusal) : Type 0 where
  pub command : RewardCommand
  pub denoted : AreRewardCommand words command
  pub said : RefusesReward holding command refusal
  pub caused : IsRewardCaused refusal
  pub long : IsLongRefusal refusal → most_bytes < taken
  pub only_long : most_bytes < taken → IsLongRefusal refusal

-- This is the line of such a refusal, whose numbers are written in full, and this is its status.
pub record IsRewardRefusalOfWords (words : List (List ℕ)) (holding : Option Holding) (taken : ℕ) (text : List ℕ)
    (status : Status) : Type 0 where
  pub refusal : RewardRefusal
  pub refused : RefusesRewardWords words holding taken refusal
  pub in_full : RewardRefusalPrintable refusal
  pub line : text ≡ reward_refusal_text refusal
  pub ends : status ≡ reward_status refusal

-- The words denote a command on rewards, and at most `most_bytes` bytes were taken from the last text.
pub record IsRewardUnread (words : List (List ℕ)) (taken : ℕ) : Type 0 where
  pub denote : DenoteRewardCommand words
  pub short : taken ≤ most_bytes

-- This is a text that a run with these words makes.
abbrev pub IsRewardOutput : List (List ℕ) → Option Holding → ℕ → List ℕ → Type 0
IsRewardOutput words holding taken text = ((status : Status) × IsRewardReportOfWords words holding taken text status)
    ⊎ ((status : Status) × IsRewardRefusalOfWords words holding taken text status)

-- 2. How a run ends.

-- A run with these words ends with this status and turns the first output into the second. Either it has written a
-- report or a refusal. Or it ended with a fault of reading, or because memory ran out, and wrote nothing. Or it ended
-- with a fault of writing, and wrote a prefix of such a text.
abbrev pub IsRewardEnding : List (List ℕ) → Option Holding → ℕ → Option (List ℕ) → Option (List ℕ) → Status → Type 0
IsRewardEnding words holding taken old new Fine =
    Writes old new (λ text. IsRewardReportOfWords words holding taken text Fine)
IsRewardEnding words holding taken old new SomeFalse =
    Writes old new (λ text. IsRewardReportOfWords words holding taken text SomeFalse)
IsRewardEnding words holding taken old new SomeUndecided =
    Writes old new (λ text. IsRewardReportOfWords words holding taken text SomeUndecided)
IsRewardEnding words holding taken old new ModelRefused =
    Writes old new (λ text. IsRewardRefusalOfWords words holding taken text ModelRefused)
IsRewardEnding words holding taken old new CertificateRefused =
    Writes old new (λ text. IsRewardRefusalOfWords words holding taken text CertificateRefused)
IsRewardEnding words holding taken old new Usage = ⊥
IsRewardEnding words holding taken old new ReadFault = IsRewardUnread words taken × (new ≡ old)
IsRewardEnding words holding taken old new WriteFault =
    WritesFront old new (λ text. IsRewardOutput words holding taken text)
IsRewardEnding words holding taken old new OutOfMemory = new ≡ old

-- 3. What a run asks of the shelf.

-- The words denote a command on rewards and, if the holding is known, a text that the command needs is not held.
pub record IsRewardMissingOfWords (words : List (List ℕ)) (holding : Option Holding) : Type 0 where
  pub command : RewardCommand
  pub denoted : AreRewardCommand words command
  pub missing : IsRewardMissing holding command

-- This is what a run with these words does to a shelf, by the status with which it ends.
pub record AsksRewardShelf {S : Type 0} (held : S → Option Holding) (steady : S → Bool) (faults took : S → ℕ)
    (words : List (List ℕ)) (old new : S) (status : Status) : Type 0 where
  -- The holding and the steadiness stay the same, and the count of faults does not fall.
  pub kept : KeepsShelf (held old) (held new) (steady old) (steady new) (faults old) (faults new)
  pub taken : (took new ≡ took old) ⊎ (took new ≤ most_bytes + piece_size)
  -- A run ends with a fault of reading only if the count rose, and over a steady shelf only if a text is not held.
  pub read_fault : status ≡ ReadFault → Rose (faults old) (faults new)
  pub steadily : status ≡ ReadFault → steady old ≡ true → IsRewardMissingOfWords words (held old)

-- 4. What is made for words.

-- What was made is the report of the command on rewards that the words denote, or its refusal, or a text of it could
-- not be read, or memory ran out.
abbrev pub AnswersRewardWords : List (List ℕ) → Option Holding → ℕ → Result Answer RewardEnd → Type 0
AnswersRewardWords words holding taken (Ok answer) =
    IsRewardReportOfWords words holding taken answer.text.items answer.status
AnswersRewardWords words holding taken (Err end.OutOfMemory) = Unit {0}
AnswersRewardWords words holding taken (Err end.ReadFault) = IsRewardUnread words taken
AnswersRewardWords words holding taken (Err (end.Refused refusal)) = RefusesRewardWords words holding taken refusal

-- 5. What is held and accepted.

-- Over the rewards of a question, a text is there that is accepted as its certificate.
pub record AcceptsRewardCertificate (question : RewardQuestion) (source : Option (List ℕ)) : Type 0 where
  pub table : List (Option Fraction)
  pub has : HasRewardsOf question table
  pub plan : RewardPlan
  pub certificate : Certificate
  pub accepted : GivenTextWith source
      (λ text. IsAcceptedText question.posing.question (exact_by question table) text plan certificate)

-- The held texts ask the question of a command, and for `audit` the held certificate is accepted.
abbrev pub IsAcceptedReward : Holding → RewardCommand → Type 0
IsAcceptedReward held (OfAuditReward audit) = (question : RewardQuestion)
    × AsksIt (Some held) audit.asked audit.rewards question
    × AcceptsRewardCertificate question (held audit.certificate)
IsAcceptedReward held (OfSolveReward solve) =
    (question : RewardQuestion) × AsksIt (Some held) solve.asked solve.rewards question

-- The words denote a command on rewards, the holding is known, and all that the command needs is held and accepted.
pub record IsAcceptedRewardWords (words : List (List ℕ)) (holding : Option Holding) : Type 0 where
  pub command : RewardCommand
  pub denoted : AreRewardCommand words command
  pub held : Holding
  pub known : holding ≡ Some held
  pub accepted : IsAcceptedReward held command

-- The shelf can be read: it is steady, or no fault of it arose.
abbrev pub IsRewardReadable : {S : Type 0} → (S → Bool) → (S → ℕ) → S → S → Type 0
IsRewardReadable steady faults old new = (steady old ≡ true) ⊎ (¬ Rose (faults old) (faults new))
