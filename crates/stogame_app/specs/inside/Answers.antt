-- These definitions say what is made for a command: an answer, or the reason why there is none.
use Rattle.std.specs.Prelude.{◌≡◌, ◌≤◌, ℕ, List, Bool, true, Option, Result, Err, IfOk, IsErrOf}
use Rattle.text_lines.specs.Limits.{most_bytes}
use Rattle.game_outside.specs.Outside.{Holding, Rose, KeepsShelf}
use Rattle.command_words.specs.Words.{Asked, Command, AreCommand}
use Rattle.output.specs.declared.refusal.Refusal.{Refusal}
use Rattle.inputs.specs.declared.load.End.{End}
use Rattle.inputs.specs.declared.load.End.TheVariants.{ReadFault, Refused}
use Rattle.inputs.specs.Loading.{ReadsNothing, EndsCaused, Takes}
use Rattle.inputs.specs.Posed.{Reading}
use Rattle.inputs.specs.Questions.{Reads}
use Rattle.inputs.specs.Sources.{IfKnown}
use Rattle.output.specs.declared.answer.Answer.{Answer}
use Rattle.output.specs.Status.{IsAnswer}
use Rattle.stogame_app.specs.Commands.{IsMissing, ReadsFiles, RefusesIt}
use Rattle.stogame_app.specs.Reports.{IsReportOfWords}

-- For a command whose texts were read, its report and status are made, or its first refusal. Nothing more is asked of a
-- shelf.
pub record IsMadeOf (command : Command) (asked : Asked) (reading : Reading) (result : Result Answer End) : Type 0 where
  pub answered : (holding : Option Holding) (words : List (List ℕ)) (taken : ℕ) → Reads holding asked reading
      → AreCommand words command → taken ≤ most_bytes
      → IfOk result (λ answer. IsReportOfWords words holding taken answer.text.items answer.status)
  pub status : IfOk result (λ answer. IsAnswer answer.status)
  pub refused : (holding : Option Holding) (refusal : Refusal) → Reads holding asked reading
      → result ≡ Err (Refused refusal) → RefusesIt holding command refusal
  pub nothing : ReadsNothing result

-- This is the answer to a command, with what making it does to a shelf.
pub record IsAnswered {S : Type 0} (held : S → Option Holding) (steady : S → Bool) (faults took : S → ℕ)
    (command : Command) (old new : S) (result : Result Answer End) : Type 0 where
  -- For words that denote the command, the answer is its report and its status.
  pub answered : (words : List (List ℕ)) → AreCommand words command
      → IfOk result (λ answer. IsReportOfWords words (held old) (took new) answer.text.items answer.status)
  pub status : IfOk result (λ answer. IsAnswer answer.status)
  -- A refusal is the first one of the command, and its cause is never that memory ran out.
  pub refused : (refusal : Refusal) → result ≡ Err (Refused refusal) → RefusesIt (held old) command refusal
  pub caused : EndsCaused result
  -- A fault of reading is given only if the count of faults rose and the command reads files, and over a steady shelf
  -- only if a text is not held.
  pub read_fault : IsErrOf result ReadFault → Rose (faults old) (faults new) × ReadsFiles command
  pub steadily : IsErrOf result ReadFault → steady old ≡ true → IfKnown (held old) (λ held. IsMissing held command)
  -- This says how much is taken from the last text.
  pub takes : ReadsFiles command → Takes result (took new)
  pub untouched : ¬ ReadsFiles command → new ≡ old
  -- The holding and the steadiness stay the same, and the count of faults does not fall.
  pub kept : KeepsShelf (held old) (held new) (steady old) (steady new) (faults old) (faults new)
