-- How a run ends, from what was made for its words and what was written.
use Rattle.std.proofs.Common.{◌≡◌, ◌<◌, ◌≤◌, ◌⊎◌, inl, inr, ℕ, Bool, List, Option, Result, Ok, Err, ap, refl, subst}
use Rattle.std.proofs.Common.{sym, arith}
use Rattle.text_lines.specs.Limits.{most_bytes}
use Rattle.game_outside.specs.Outside.{Holding, GrowsBy, GrowsByPrefix}
use Rattle.command_words.specs.Words.{Command, OfMake, AreCommand}
use Rattle.output.specs.declared.refusal.Text.TheVariants.{Cert}
use Rattle.output.specs.declared.refusal.Refusal.{Refusal}
use Rattle.output.specs.declared.refusal.Refusal.TheVariants.{OfCertificate, TooLong}
use Rattle.output.specs.Printable.{RefusalPrintable}
use Rattle.output.specs.Refusals.{refusal_text}
use Rattle.inputs.specs.declared.load.End.{End}
use Rattle.inputs.specs.declared.load.End.TheVariants as end
use Rattle.inputs.specs.Loading.{Takes}
use Rattle.output.specs.declared.answer.Answer.{Answer}
use Rattle.output.specs.declared.status.Status.{Status}
use Rattle.output.specs.declared.status.Status.TheVariants.{Fine, SomeFalse, SomeUndecided}
use Rattle.output.specs.declared.status.Status.TheVariants.{ReadFault, WriteFault}
use Rattle.stogame_app.specs.Status.{IsRefusal, refused_status}
use Rattle.output.specs.Status.{IsAnswer}
use Rattle.stogame_app.specs.Commands.{ReadsFiles, RefusesIt}
use Rattle.stogame_app.specs.inside.Answers.{IsAnswered}
use Rattle.stogame_app.specs.Reports.{IsReportOfWords}
use Rattle.stogame_app.specs.Run.{AnswersWords, AsksShelf, IsEnding, IsLong, IsOutput, IsRefusalOfWords, RefusesWords}
use Rattle.stogame_app.specs.Run.{Writes}

-- 1. What was made for a command that the words denote.

-- where a text could not be read, no more than the limit was taken of it
unread_short : {X : Type 0} (taken : ℕ) → Takes {X = X} (Err end.ReadFault) taken → taken ≤ most_bytes
unread_short taken takes = grind arith

-- where it was refused, it is too long where more was
refused_long : {X : Type 0} (refusal : Refusal) (taken : ℕ) → Takes {X = X} (Err (end.Refused refusal)) taken
    → most_bytes < taken → IsLong refusal
refused_long refusal taken takes above = elim (takes.only_too_long above) [
  | inl long ↦ (long.0, cc (long.1))
  | inr memory ↦ absurd (cc (memory))
]

-- a command that is refused reads files
refused_reads : (holding : Option Holding) (command : Command) (refusal : Refusal) → RefusesIt holding command refusal
    → ReadsFiles command
refused_reads holding (OfMake make) refusal refused = absurd refused
refused_reads holding command refusal refused = tt

reads_or_not : (command : Command) → ReadsFiles command ⊎ (ReadsFiles command → ⊥)
reads_or_not (OfMake make) = inr (λ reads. reads)
reads_or_not command = inl tt

module _ {S : Type 0} {held : S → Option Holding} {steady : S → Bool} {faults took : S → ℕ} {old new : S}
    (words : List (List ℕ)) (command : Command) (denoted : AreCommand words command) where
  pub answers_words : (made : Result Answer End) → IsAnswered held steady faults took command old new made
      → AnswersWords words (held old) (took new) made
  answers_words (Ok answer) is = is.answered words denoted
  answers_words (Err end.OutOfMemory) is = tt
  answers_words (Err end.ReadFault) is =
      let reads = (is.read_fault refl).1 in
      record { command = command; denoted = denoted; reads = reads; short = unread_short (took new) (is.takes reads) }
  answers_words (Err (end.Refused refusal)) is =
      let said = is.refused refusal refl in
      let takes = is.takes (refused_reads (held old) command refusal said) in
      record {
        command = command;
        denoted = denoted;
        said = said;
        caused = is.caused;
        long = λ of. takes.too_long (of.0, ap (λ (r : Refusal). Err (end.Refused r)) of.1);
        only_long = refused_long refusal (took new) takes;
      }

  pub asks_shelf : (made : Result Answer End) (status : Status)
      → IsAnswered held steady faults took command old new made → (status ≡ ReadFault → made ≡ Err end.ReadFault)
      → AsksShelf held steady faults took words old new status
  asks_shelf made status is unread = record {
    untouched = λ none. is.untouched (none command denoted);
    kept = is.kept;
    taken = elim (reads_or_not command) [
      | inl reads ↦ inr ((is.takes reads).most)
      | inr none ↦ inl (ap took (is.untouched none))
    ];
    read_fault = λ so. (is.read_fault (unread so)).0;
    steadily = λ so calm. record { command = command; denoted = denoted; missing = is.steadily (unread so) calm };
  }

-- 2. What is written.

module _ {words : List (List ℕ)} {holding : Option Holding} {taken : ℕ} (old new : Option (List ℕ)) where
  pub report_ends : (text : List ℕ) (status : Status) → IsAnswer status
      → IsReportOfWords words holding taken text status → GrowsBy old new text
      → IsEnding words holding taken old new status
  report_ends text Fine answer report grows = record { text = text; is = report; grows = grows }
  report_ends text SomeFalse answer report grows = record { text = text; is = report; grows = grows }
  report_ends text SomeUndecided answer report grows = record { text = text; is = report; grows = grows }
  report_ends text status answer report grows = absurd answer

  pub refusal_ends : (refusal : Refusal) → RefusesWords words holding taken refusal → RefusalPrintable refusal
      → GrowsBy old new (refusal_text refusal) → IsEnding words holding taken old new (refused_status refusal)
  refusal_ends refusal refused in_full grows = elim (refused_is refusal) [
    | inl is ↦ subst (λ (s : Status). IsEnding words holding taken old new s) (sym is) (record {
      text = refusal_text refusal;
      is = record { refusal = refusal; refused = refused; in_full = in_full; line = refl; ends = sym is };
      grows = grows;
    })
    | inr is ↦ subst (λ (s : Status). IsEnding words holding taken old new s) (sym is) (record {
      text = refusal_text refusal;
      is = record { refusal = refusal; refused = refused; in_full = in_full; line = refl; ends = sym is };
      grows = grows;
    })
  ]
    where
      refused_is : (r : Refusal) → IsRefusal (refused_status r)
      refused_is (OfCertificate fault) = inr refl
      refused_is (TooLong Cert) = inr refl
      refused_is r = inl refl

  -- a text that was written to its end, or by a front
  pub said_ends : (text : List ℕ) (result status : Status) → (result ≡ status) ⊎ (result ≡ WriteFault)
      → (result ≡ status → GrowsBy old new text) → (result ≡ WriteFault → GrowsByPrefix old new text)
      → (GrowsBy old new text → IsEnding words holding taken old new status) → IsOutput words holding taken text
      → IsEnding words holding taken old new result
  said_ends text result status either all fault ends output = elim either [
    | inl is ↦ subst (λ (s : Status). IsEnding words holding taken old new s) (sym is) (ends (all is))
    | inr is ↦ subst (λ (s : Status). IsEnding words holding taken old new s) (sym is)
        (record { text = text; is = output; grows = fault is })
  ]

-- 3. What the status tells.

pub reports_told : (words : List (List ℕ)) (holding : Option Holding) (taken : ℕ) (old new : Option (List ℕ))
    (status : Status) → IsEnding words holding taken old new status → IsAnswer status
    → Writes old new (λ text. IsReportOfWords words holding taken text status)
reports_told words holding taken old new Fine ends answer = ends
reports_told words holding taken old new SomeFalse ends answer = ends
reports_told words holding taken old new SomeUndecided ends answer = ends
reports_told words holding taken old new status ends answer = absurd answer

pub refusals_told : (words : List (List ℕ)) (holding : Option Holding) (taken : ℕ) (old new : Option (List ℕ))
    (status : Status) → IsEnding words holding taken old new status → IsRefusal status
    → Writes old new (λ text. IsRefusalOfWords words holding taken text status)
refusals_told words holding taken old new status ends refusal = elim refusal [
  | inl is ↦ subst P (sym is) (subst (λ (s : Status). IsEnding words holding taken old new s) is ends)
  | inr is ↦ subst P (sym is) (subst (λ (s : Status). IsEnding words holding taken old new s) is ends)
]
  where
    P : Status → Type 0
    P s = Writes old new (λ text. IsRefusalOfWords words holding taken text s)
