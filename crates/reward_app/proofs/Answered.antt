-- The answer to a command on rewards, from what its parts answered.
use Rattle.std.proofs.Common.{◌≡◌, ◌≤◌, ◌∙◌, inl, inr, ℕ, Bool, true, List, Option, None, Result, Ok, Err, ap}
use Rattle.std.proofs.Common.{arith, subst}
use Rattle.std.specs.Prelude.{IsErrOf}
use Rattle.text_lines.specs.Limits.{most_bytes}
use Rattle.game_outside.specs.Outside.{Holding}
use Rattle.command_words.specs.Words.{Asked}
use Rattle.rewards_reader.specs.declared.line.RewardLine.{RewardLine}
use Rattle.output.specs.declared.answer.Answer.{Answer}
use Rattle.output.specs.Status.{IsAnswer}
use Rattle.inputs.specs.Sources.{IfKnown, SourceWith}
use Rattle.reward_words.specs.Words.{AuditReward, SolveReward, RewardCommand, OfAuditReward, OfSolveReward}
use Rattle.reward_words.specs.Words.{AreRewardCommand}
use Rattle.reward_refusals.specs.declared.refusal.RewardRefusal.{RewardRefusal}
use Rattle.reward_inputs.specs.declared.end.RewardEnd.{RewardEnd}
use Rattle.reward_inputs.specs.declared.end.RewardEnd.TheVariants.{OutOfMemory, ReadFault, Refused}
use Rattle.reward_inputs.specs.declared.loaded.LoadedRewards.{LoadedRewards}
use Rattle.reward_inputs.specs.Loading.{AsksNothing, LoadsAs, RewardEndsCaused, RewardLoadingLeaves, RewardTakes}
use Rattle.reward_inputs.specs.Posed.{RewardQuestion, rewards_posed}
use Rattle.reward_inputs.specs.Questions.{AsksIt, LacksRewards, ReadsRewards, ReadsRewardsAs, RefusesRewards}
use Rattle.reward_inputs.specs.Said.{RewardSaid, Refuses, and_then}
use Rattle.reward_inputs.specs.Seen.{reading_of}
use Rattle.reward_inputs.proofs.Leaving.{answer_leaves, end_leaves, of_end, other_end, other_long}
use Rattle.reward_app.specs.Commands.{IsRewardMissing, RefusesReward}
use Rattle.reward_app.specs.OfWords.{IsRewardReportOfWords}
use Rattle.reward_app.specs.Reports.{RefusesRewardCertificate}
use Rattle.reward_app.specs.inside.Answers.{IsRewardAnswered, IsRewardMade}

-- 1. What loading does to a shelf.

-- no more than the limit is taken of what is loaded
pub small_taken : {X : Type 0} (x : X) (taken : ℕ) → RewardTakes {X = X} (Ok x) taken → taken ≤ most_bytes
small_taken x taken takes = grind arith

-- more is loaded
pub both_leave : {S X Y : Type 0} {held : S → Option Holding} {steady : S → Bool}
    {faults took : S → ℕ} {old middle new : S} {first : Result X RewardEnd} {result : Result Y RewardEnd}
    → RewardLoadingLeaves held steady faults took old middle first
    → RewardLoadingLeaves held steady faults took middle new result
    → RewardLoadingLeaves held steady faults took old new result
both_leave leaves rest = record {
  read_fault = λ fails. omega (arith, leaves.kept.later, rest.read_fault fails);
  takes = rest.takes;
  kept = record {
    held = rest.kept.held ∙ leaves.kept.held;
    steady = rest.kept.steady ∙ leaves.kept.steady;
    later = omega (arith, leaves.kept.later, rest.kept.later);
  };
}

same_caused : (X Y : Type 0) (end : RewardEnd) → RewardEndsCaused {X = X} (Err end)
    → RewardEndsCaused {X = Y} (Err end)
same_caused X Y OutOfMemory caused = tt
same_caused X Y ReadFault caused = tt
same_caused X Y (Refused refusal) caused = caused

-- 2. A command, from what its loading does to a shelf.

module _ {S : Type 0} {held : S → Option Holding} {steady : S → Bool} {faults took : S → ℕ} {old new : S}
    (command : RewardCommand) where
  -- where something was not loaded
  ends : {X : Type 0} {end : RewardEnd} → RewardLoadingLeaves {X = X} held steady faults took old new (Err end)
      → RewardEndsCaused {X = X} (Err end)
      → ((refusal : RewardRefusal) → end ≡ Refused refusal → RefusesReward (held old) command refusal)
      → (end ≡ ReadFault → steady old ≡ true → IsRewardMissing (held old) command)
      → IsRewardAnswered held steady faults took command old new (Err end)
  ends {X} {end} leaves caused refused steadily = record {
    answered = λ words denoted. tt;
    status = tt;
    refused = λ refusal is. refused refusal (of_end end (Refused refusal) is);
    caused = same_caused X Answer end caused;
    steadily = λ is. steadily (of_end end ReadFault is);
    leaves = end_leaves end leaves;
  }

  -- behind what was loaded, memory was wanting
  pub wanting : {X : Type 0} {x : X} → RewardLoadingLeaves held steady faults took old new (Ok x)
      → IsRewardAnswered held steady faults took command old new (Err OutOfMemory)
  wanting {X} {x} leaves =
      ends (answer_leaves {Y = X} (Err OutOfMemory) x (λ is. cc (is)) (λ long. long) leaves) tt
      (λ refusal is. cc (is)) (λ is. cc (is))

  -- or there is a report
  pub reported : {X : Type 0} {x : X} → RewardLoadingLeaves held steady faults took old new (Ok x)
      → (answer : Answer) → ((words : List (List ℕ)) → AreRewardCommand words command → took new ≤ most_bytes
      → IsRewardReportOfWords words (held old) (took new) answer.text.items answer.status) → IsAnswer answer.status
      → IsRewardAnswered held steady faults took command old new (Ok answer)
  reported {X} {x} leaves answer report status = record {
    answered = λ words denoted. report words denoted (small_taken x (took new) leaves.takes);
    status = status;
    refused = λ refusal is. cc (is);
    caused = tt;
    steadily = λ is. cc (is);
    leaves = answer_leaves (Ok answer) x (λ is. cc (is)) (λ long. long) leaves;
  }

-- 3. A command that asks the question of these words:
-- a refusal of the question is one of the command, and so is a text that is not held.
pub record AsksQuestion (command : RewardCommand) (asked : Asked) (name : List ℕ) : Type 0 where
  pub refuses : (holding : Option Holding) (refusal : RewardRefusal) → RefusesRewards holding asked name refusal
      → RefusesReward holding command refusal
  pub lacks : (holding : Option Holding) → LacksRewards holding asked name → IsRewardMissing holding command

pub audit_asks : (audit : AuditReward) → AsksQuestion (OfAuditReward audit) audit.asked audit.rewards
audit_asks audit = record { refuses = λ holding refusal refused. inl refused; lacks = λ holding lacks. inl lacks }

pub solve_asks : (solve : SolveReward) → AsksQuestion (OfSolveReward solve) solve.asked solve.rewards
solve_asks solve = record { refuses = λ holding refusal refused. refused; lacks = λ holding lacks. lacks }

-- the first refusal of what is read is that of the question
reading_refuses : {holding : Option Holding} {asked : Asked} {name : List ℕ} {refusal : RewardRefusal}
    → ReadsRewardsAs holding asked name (Refuses refusal) → RefusesRewards holding asked name refusal
reading_refuses said = record {
  sources = said.sources;
  told = said.told;
  refuses = ap (λ s. and_then s (λ reading. rewards_posed reading)) said.says;
}

-- what is refused is said
is_refused : {X Y : Type 0} (view : X → Y) (said : RewardSaid Y) (end : RewardEnd) (refusal : RewardRefusal)
    → LoadsAs view (Err end) said → end ≡ Refused refusal → said ≡ Refuses refusal
is_refused view said end refusal loads is = subst (λ (e : RewardEnd). LoadsAs view (Err e) said) is loads

module _ {S : Type 0} {held : S → Option Holding} {steady : S → Bool} {faults took : S → ℕ} {command : RewardCommand}
    {asked : Asked} {name : List ℕ} {old new : S} (asks : AsksQuestion command asked name) where
  -- where a text was not loaded
  pub unloaded : {X : Type 0} {end : RewardEnd} → ((refusal : RewardRefusal)
      → ◌≡◌ {A = Result X RewardEnd} (Err end) (Err (Refused refusal))
      → ReadsRewardsAs (held old) asked name (Refuses refusal))
      → (IsErrOf {T = X} (Err end) ReadFault → steady old ≡ true → LacksRewards (held old) asked name)
      → RewardLoadingLeaves {X = X} held steady faults took old new (Err end) → RewardEndsCaused {X = X} (Err end)
      → IsRewardAnswered held steady faults took command old new (Err end)
  unloaded refused steadily leaves caused = ends command leaves caused
      (λ refusal is. asks.refuses (held old) refusal (reading_refuses (refused refusal (cc (is)))))
      (λ is calm. asks.lacks (held old) (steadily (cc (is)) calm))

  -- where the question was not posed
  pub unposed : {Y : Type 0} {end : RewardEnd} (loaded : LoadedRewards) (view : Y → RewardQuestion)
      → (reads : ReadsRewards (held old) asked name loaded)
      → LoadsAs view (Err end) (rewards_posed (reading_of loaded reads.lines)) → AsksNothing {X = Y} (Err end)
      → RewardLoadingLeaves held steady faults took old new (Ok loaded)
      → IsRewardAnswered held steady faults took command old new (Err end)
  unposed {Y} {end} loaded view reads loads nothing leaves =
      ends command (answer_leaves {Y = Y} (Err end) loaded nothing.read nothing.short leaves) nothing.caused
      (λ refusal is. asks.refuses (held old) refusal (reads.refuses refusal
      (is_refused view (rewards_posed (reading_of loaded reads.lines)) end refusal loads is)))
      (λ is. absurd (nothing.read (cc (is))))

  -- what is made of what was loaded is the answer
  pub answered_by : {loaded : LoadedRewards} {result : Result Answer RewardEnd}
      → RewardLoadingLeaves held steady faults took old new (Ok loaded) → ReadsRewards (held old) asked name loaded
      → IsRewardMade command asked name loaded result
      → IsRewardAnswered held steady faults took command old new result
  answered_by {loaded} {result} leaves reads made = record {
    answered = λ words denoted. made.answered (held old) words (took new) reads denoted
        (small_taken loaded (took new) leaves.takes);
    status = made.status;
    refused = λ refusal is. made.refused (held old) refusal reads is;
    caused = made.nothing.caused;
    steadily = λ is. absurd (made.nothing.read is);
    leaves = answer_leaves result loaded made.nothing.read made.nothing.short leaves;
  }

-- what is made of what was loaded
module _ {command : RewardCommand} {asked : Asked} {name : List ℕ} {loaded : LoadedRewards} where
  -- where the question was not posed
  pub unposed_made : {Y : Type 0} {end : RewardEnd} (view : List RewardLine → Y → RewardQuestion)
      → AsksQuestion command asked name
      → ((lines : List RewardLine) → LoadsAs (view lines) (Err end) (rewards_posed (reading_of loaded lines)))
      → AsksNothing {X = Y} (Err end) → IsRewardMade command asked name loaded (Err end)
  unposed_made {Y} {end} view asks loads nothing = record {
    answered = λ holding words taken reads denoted short. tt;
    status = tt;
    refused = λ holding refusal reads is. asks.refuses holding refusal (reads.refuses refusal
        (is_refused (view reads.lines) (rewards_posed (reading_of loaded reads.lines)) end refusal (loads reads.lines)
        (of_end end (Refused refusal) is)));
    nothing = record {
      read = λ is. nothing.read (other_end end ReadFault is);
      caused = same_caused Y Answer end nothing.caused;
      short = λ long. nothing.short (other_long Answer Y end long);
    };
  }

  -- where memory was wanting
  pub want_made : IsRewardMade command asked name loaded (Err OutOfMemory)
  want_made = record {
    answered = λ holding words taken reads denoted short. tt;
    status = tt;
    refused = λ holding refusal reads is. absurd (cc (is));
    nothing = record { read = λ is. cc (is); caused = tt; short = λ long. long };
  }

  -- where there is a report
  pub report_made : (answer : Answer) → ((holding : Option Holding) (words : List (List ℕ)) (taken : ℕ)
      → ReadsRewards holding asked name loaded → AreRewardCommand words command → taken ≤ most_bytes
      → IsRewardReportOfWords words holding taken answer.text.items answer.status) → IsAnswer answer.status
      → IsRewardMade command asked name loaded (Ok answer)
  report_made answer report status = record {
    answered = report;
    status = status;
    refused = λ holding refusal reads is. absurd (cc (is));
    nothing = record { read = λ is. cc (is); caused = tt; short = λ long. long };
  }

-- 4. The certificate behind the question.

module _ {S X : Type 0} {held : S → Option Holding} {steady : S → Bool} {faults took : S → ℕ} {old middle new : S}
    {x : X} (leaves : RewardLoadingLeaves held steady faults took old middle (Ok x)) where
  pub uncertified : {Y : Type 0} {end : RewardEnd} (audit : AuditReward) (question : RewardQuestion)
      → AsksIt (held old) audit.asked audit.rewards question
      → ((refusal : RewardRefusal) → ◌≡◌ {A = Result Y RewardEnd} (Err end) (Err (Refused refusal))
      → SourceWith (held middle) audit.certificate (λ source. RefusesRewardCertificate question source refusal))
      → (IsErrOf {T = Y} (Err end) ReadFault → steady middle ≡ true
      → IfKnown (held middle) (λ held. held audit.certificate ≡ None))
      → RewardLoadingLeaves {X = Y} held steady faults took middle new (Err end)
      → RewardEndsCaused {X = Y} (Err end)
      → IsRewardAnswered held steady faults took (OfAuditReward audit) old new (Err end)
  uncertified audit question asked refused steadily rest caused =
      ends (OfAuditReward audit) (both_leave leaves rest) caused (λ refusal is. inr (record {
        question = question;
        asked = asked;
        certificate = subst (λ (h : Option Holding).
            SourceWith h audit.certificate (λ source. RefusesRewardCertificate question source refusal))
            leaves.kept.held (refused refusal (cc (is)));
      }))
      (λ is calm. inr (record {
        question = question;
        asked = asked;
        lacks = subst (λ (h : Option Holding). IfKnown h (λ held. held audit.certificate ≡ None)) leaves.kept.held
            (steadily (cc (is)) (leaves.kept.steady ∙ calm));
      }))
