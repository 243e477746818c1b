-- These definitions say what is made for a command on rewards: an answer, or the reason why there is none.
use Rattle.std.specs.Prelude.{◌≡◌, ◌≤◌, ℕ, List, Bool, true, Option, Result, Err, IfOk, IsErrOf}
use Rattle.text_lines.specs.Limits.{most_bytes}
use Rattle.game_outside.specs.Outside.{Holding}
use Rattle.command_words.specs.Words.{Asked}
use Rattle.output.specs.declared.answer.Answer.{Answer}
use Rattle.output.specs.Status.{IsAnswer}
use Rattle.reward_words.specs.Words.{RewardCommand, AreRewardCommand}
use Rattle.reward_refusals.specs.declared.refusal.RewardRefusal.{RewardRefusal}
use Rattle.reward_inputs.specs.declared.end.RewardEnd.{RewardEnd}
use Rattle.reward_inputs.specs.declared.end.RewardEnd.TheVariants.{ReadFault, Refused}
use Rattle.reward_inputs.specs.declared.loaded.LoadedRewards.{LoadedRewards}
use Rattle.reward_inputs.specs.Loading.{AsksNothing, RewardEndsCaused, RewardLoadingLeaves}
use Rattle.reward_inputs.specs.Questions.{ReadsRewards}
use Rattle.reward_app.specs.Commands.{IsRewardMissing, RefusesReward}
use Rattle.reward_app.specs.OfWords.{IsRewardReportOfWords}

-- This is the answer to a command on rewards, with what making it does to a shelf.
pub record IsRewardAnswered {S : Type 0} (held : S → Option Holding) (steady : S → Bool) (faults took : S → ℕ)
    (command : RewardCommand) (old new : S) (result : Result Answer RewardEnd) : Type 0 where
  -- For words that denote the command, the answer is its report and its status.
  pub answered : (words : List (List ℕ)) → AreRewardCommand words command
      → IfOk result (λ answer. IsRewardReportOfWords words (held old) (took new) answer.text.items answer.status)
  pub status : IfOk result (λ answer. IsAnswer answer.status)
  -- A refusal is the first one of the command, and its cause is never that memory ran out.
  pub refused : (refusal : RewardRefusal) → result ≡ Err (Refused refusal) → RefusesReward (held old) command refusal
  pub caused : RewardEndsCaused result
  -- Over a steady shelf a fault of reading is given only if a text is not held.
  pub steadily : IsErrOf result ReadFault → steady old ≡ true → IsRewardMissing (held old) command
  -- This is what is asked of the shelf.
  pub leaves : RewardLoadingLeaves held steady faults took old new result

-- For a command whose texts were read, its report and status are made, or its first refusal. Nothing is asked of a
-- shelf.
pub record IsRewardMade (command : RewardCommand) (asked : Asked) (name : List ℕ) (loaded : LoadedRewards)
    (result : Result Answer RewardEnd) : Type 0 where
  pub answered : (holding : Option Holding) (words : List (List ℕ)) (taken : ℕ)
      → ReadsRewards holding asked name loaded → AreRewardCommand words command → taken ≤ most_bytes
      → IfOk result (λ answer. IsRewardReportOfWords words holding taken answer.text.items answer.status)
  pub status : IfOk result (λ answer. IsAnswer answer.status)
  pub refused : (holding : Option Holding) (refusal : RewardRefusal) → ReadsRewards holding asked name loaded
      → result ≡ Err (Refused refusal) → RefusesReward holding command refusal
  pub nothing : AsksNothing result
