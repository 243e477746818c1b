-- How a run on rewards ends, from what was made for its words and what was written.
use Rattle.std.proofs.Common.{◌≡◌, ◌<◌, ◌≤◌, ◌⊎◌, inl, inr, ℕ, Bool, List, Option, Result, Ok, Err, refl, subst}
use Rattle.std.proofs.Common.{sym, arith}
use Rattle.text_lines.specs.Limits.{most_bytes}
use Rattle.game_outside.specs.Outside.{Holding, GrowsBy, GrowsByPrefix}
use Rattle.output.specs.declared.answer.Answer.{Answer}
use Rattle.output.specs.declared.refusal.Refusal.{Refusal}
use Rattle.output.specs.declared.refusal.Refusal.TheVariants as shared
use Rattle.output.specs.declared.refusal.Text.TheVariants.{Cert}
use Rattle.output.specs.declared.status.Status.{Status}
use Rattle.output.specs.declared.status.Status.TheVariants.{Fine, SomeFalse, SomeUndecided}
use Rattle.output.specs.declared.status.Status.TheVariants.{ReadFault, WriteFault}
use Rattle.output.specs.Status.{IsAnswer}
use Rattle.reward_words.specs.Words.{RewardCommand, AreRewardCommand}
use Rattle.reward_refusals.specs.declared.refusal.RewardRefusal.{RewardRefusal}
use Rattle.reward_refusals.specs.declared.refusal.RewardRefusal.TheVariants.{Shared, OfRewards, RewardsTooLong}
use Rattle.reward_refusals.specs.declared.refusal.RewardRefusal.TheVariants.{OfCertificateText, OfCertificate}
use Rattle.reward_refusals.specs.Printable.{RewardRefusalPrintable}
use Rattle.reward_refusals.specs.Refusals.{reward_refusal_text}
use Rattle.reward_refusals.specs.Status.{reward_status, shared_status}
use Rattle.reward_inputs.specs.declared.end.RewardEnd.{RewardEnd}
use Rattle.reward_inputs.specs.declared.end.RewardEnd.TheVariants as end
use Rattle.reward_inputs.specs.Loading.{IsLongRefusal, RewardTakes}
use Rattle.stogame_app.specs.Status.{IsRefusal}
use Rattle.reward_app.specs.OfWords.{IsRewardReportOfWords}
use Rattle.reward_app.specs.Run.{AnswersRewardWords, AsksRewardShelf, IsRewardEnding, IsRewardOutput}
use Rattle.reward_app.specs.Run.{RefusesRewardWords}
use Rattle.reward_app.specs.inside.Answers.{IsRewardAnswered}

-- 1. What was made for a command that the words denote.

-- where a text could not be read, no more than the limit was taken of it
unread_short : {X : Type 0} (taken : ℕ) → RewardTakes {X = X} (Err end.ReadFault) taken → taken ≤ most_bytes
unread_short taken takes = grind arith

-- where it was refused, it is too long where more was
refused_long : {X : Type 0} (refusal : RewardRefusal) (taken : ℕ)
    → RewardTakes {X = X} (Err (end.Refused refusal)) taken → most_bytes < taken → IsLongRefusal refusal
refused_long refusal taken takes above = elim (takes.only_too_long above) [
  | inl long ↦ long
  | inr memory ↦ absurd (cc (memory))
]

module _ {S : Type 0} {held : S → Option Holding} {steady : S → Bool} {faults took : S → ℕ} {old new : S}
    (words : List (List ℕ)) (command : RewardCommand) (denoted : AreRewardCommand words command) where
  pub answers_words : (made : Result Answer RewardEnd) → IsRewardAnswered held steady faults took command old new made
      → AnswersRewardWords words (held old) (took new) made
  answers_words (Ok answer) is = is.answered words denoted
  answers_words (Err end.OutOfMemory) is = tt
  answers_words (Err end.ReadFault) is =
      record { denote = (command, denoted); short = unread_short (took new) is.leaves.takes }
  answers_words (Err (end.Refused refusal)) is = record {
    command = command;
    denoted = denoted;
    said = is.refused refusal refl;
    caused = is.caused;
    long = λ of. is.leaves.takes.too_long of;
    only_long = refused_long refusal (took new) is.leaves.takes;
  }

  pub asks_shelf : (made : Result Answer RewardEnd) (status : Status)
      → IsRewardAnswered held steady faults took command old new made
      → (status ≡ ReadFault → made ≡ Err end.ReadFault)
      → AsksRewardShelf held steady faults took words old new status
  asks_shelf made status is unread = record {
    kept = is.leaves.kept;
    taken = inr is.leaves.takes.most;
    read_fault = λ so. is.leaves.read_fault (unread so);
    steadily = λ so calm. record { command = command; denoted = denoted; missing = is.steadily (unread so) calm };
  }

-- 2. What is written.

-- the status of a refusal is one of two
refused_is : (refusal : RewardRefusal) → IsRefusal (reward_status refusal)
refused_is (Shared refusal) = of_shared refusal
  where
    of_shared : (r : Refusal) → IsRefusal (shared_status r)
    of_shared (shared.OfCertificate fault) = inr refl
    of_shared (shared.TooLong Cert) = inr refl
    of_shared r = inl refl
refused_is (OfRewards fault) = inl refl
refused_is RewardsTooLong = inl refl
refused_is (OfCertificateText fault) = inr refl
refused_is (OfCertificate fault) = inr refl

module _ {words : List (List ℕ)} {holding : Option Holding} {taken : ℕ} (old new : Option (List ℕ)) where
  pub report_ends : (text : List ℕ) (status : Status) → IsAnswer status
      → IsRewardReportOfWords words holding taken text status → GrowsBy old new text
      → IsRewardEnding words holding taken old new status
  report_ends text Fine answer report grows = record { text = text; is = report; grows = grows }
  report_ends text SomeFalse answer report grows = record { text = text; is = report; grows = grows }
  report_ends text SomeUndecided answer report grows = record { text = text; is = report; grows = grows }
  report_ends text status answer report grows = absurd answer

  pub refusal_ends : (refusal : RewardRefusal) → RefusesRewardWords words holding taken refusal
      → RewardRefusalPrintable refusal → GrowsBy old new (reward_refusal_text refusal)
      → IsRewardEnding words holding taken old new (reward_status refusal)
  refusal_ends refusal refused in_full grows = elim (refused_is refusal) [
    | inl is ↦ subst (λ (s : Status). IsRewardEnding words holding taken old new s) (sym is) (record {
      text = reward_refusal_text refusal;
      is = record { refusal = refusal; refused = refused; in_full = in_full; line = refl; ends = sym is };
      grows = grows;
    })
    | inr is ↦ subst (λ (s : Status). IsRewardEnding words holding taken old new s) (sym is) (record {
      text = reward_refusal_text refusal;
      is = record { refusal = refusal; refused = refused; in_full = in_full; line = refl; ends = sym is };
      grows = grows;
    })
  ]

  -- a text that was written to its end, or by a front
  pub said_ends : (text : List ℕ) (result status : Status) → (result ≡ status) ⊎ (result ≡ WriteFault)
      → (result ≡ status → GrowsBy old new text) → (result ≡ WriteFault → GrowsByPrefix old new text)
      → (GrowsBy old new text → IsRewardEnding words holding taken old new status)
      → IsRewardOutput words holding taken text → IsRewardEnding words holding taken old new result
  said_ends text result status either all fault ends output = elim either [
    | inl is ↦ subst (λ (s : Status). IsRewardEnding words holding taken old new s) (sym is) (ends (all is))
    | inr is ↦ subst (λ (s : Status). IsRewardEnding words holding taken old new s) (sym is)
        (record { text = text; is = output; grows = fault is })
  ]
