-- These definitions say how a run ends, what it has written then, and what it has asked of its shelf.
use Rattle.std.specs.Prelude.{◌≡◌, ◌<◌, ◌≤◌, ◌+◌, ◌⊎◌, ℕ, Bool, true, List, Option, Result, Ok, Err}
use Rattle.text_lines.specs.Limits.{most_bytes}
use Rattle.game_outside.specs.Limits.{piece_size}
use Rattle.game_outside.specs.Outside.{Holding, Rose, KeepsShelf, GrowsBy, GrowsByPrefix}
use Rattle.command_words.specs.Words.{Command, AreCommand, AreNoCommand}
use Rattle.output.specs.declared.refusal.Text.{Text}
use Rattle.output.specs.declared.refusal.Refusal.{Refusal}
use Rattle.output.specs.declared.refusal.Refusal.TheVariants.{TooLong}
use Rattle.output.specs.Caused.{IsCaused}
use Rattle.output.specs.Printable.{RefusalPrintable}
use Rattle.output.specs.Refusals.{refusal_text, usage_text}
use Rattle.inputs.specs.declared.load.End.{End}
use Rattle.inputs.specs.declared.load.End.TheVariants as end
use Rattle.inputs.specs.Sources.{IfKnown}
use Rattle.output.specs.declared.answer.Answer.{Answer}
use Rattle.output.specs.declared.status.Status.{Status}
use Rattle.output.specs.declared.status.Status.TheVariants.{Fine, SomeFalse, SomeUndecided, Usage, ModelRefused}
use Rattle.output.specs.declared.status.Status.TheVariants.{ReadFault, WriteFault, OutOfMemory, CertificateRefused}
use Rattle.stogame_app.specs.Status.{refused_status}
use Rattle.stogame_app.specs.Commands.{IsAcceptedFrom, IsMissing, ReadsFiles, RefusesIt}
use Rattle.stogame_app.specs.Reports.{IsReportOfWords}

-- 1. What is written.

-- The refusal is that some text is too long.
abbrev pub IsLong : Refusal → Type 0
IsLong refusal = (text : Text) × (refusal ≡ TooLong text)

-- The words denote a command of which this is the first refusal, and its cause is not that memory ran out. It says that
-- a text is too long exactly if more than `most_bytes` bytes were taken from the last text.
pub record RefusesWords (words : List (List ℕ)) (holding : Option Holding) (taken : ℕ)
    (refusal : Refusal) : Type 0 where
  pub command : Command
  pub denoted : AreCommand words command
  pub said : RefusesIt holding command refusal
  pub caused : IsCaused refusal
  pub long : IsLong refusal → most_bytes < taken
  pub only_long : most_bytes < taken → IsLong refusal

-- This is the line of such a refusal, whose numbers are written in full, and this is its status.
pub record IsRefusalOfWords (words : List (List ℕ)) (holding : Option Holding) (taken : ℕ) (text : List ℕ)
    (status : Status) : Type 0 where
  pub refusal : Refusal
  pub refused : RefusesWords words holding taken refusal
  pub in_full : RefusalPrintable refusal
  pub line : text ≡ refusal_text refusal
  pub ends : status ≡ refused_status refusal

-- The words denote a command that reads files, and at most `most_bytes` bytes were taken from the last text.
pub record IsUnreadOfWords (words : List (List ℕ)) (taken : ℕ) : Type 0 where
  pub command : Command
  pub denoted : AreCommand words command
  pub reads : ReadsFiles command
  pub short : taken ≤ most_bytes

-- The words denote no command, and this is the usage line.
pub record IsUsageOfWords (words : List (List ℕ)) (text : List ℕ) : Type 0 where
  pub no_command : AreNoCommand words
  pub line : text ≡ usage_text

-- This is a text that a run with these words makes.
abbrev pub IsOutput : List (List ℕ) → Option Holding → ℕ → List ℕ → Type 0
IsOutput words holding taken text = ((status : Status) × IsReportOfWords words holding taken text status)
    ⊎ (((status : Status) × IsRefusalOfWords words holding taken text status) ⊎ IsUsageOfWords words text)

-- 2. How a run ends.

-- There is such a text, and the output grew by it if the bytes of the output are known.
pub record Writes (old new : Option (List ℕ)) (IsText : List ℕ → Type 0) : Type 0 where
  pub text : List ℕ
  pub is : IsText text
  pub grows : GrowsBy old new text

-- There is such a text, and the output grew by a prefix of it if the bytes of the output are known.
pub record WritesFront (old new : Option (List ℕ)) (IsText : List ℕ → Type 0) : Type 0 where
  pub text : List ℕ
  pub is : IsText text
  pub grows : GrowsByPrefix old new text

-- A run with these words ends with this status and turns the first output into the second. Either it has written a
-- report, a refusal or the usage line. Or it ended with a fault of reading, or because memory ran out, and wrote
-- nothing. Or it ended with a fault of writing, and wrote a prefix of such a text.
abbrev pub IsEnding : List (List ℕ) → Option Holding → ℕ → Option (List ℕ) → Option (List ℕ) → Status → Type 0
IsEnding words holding taken old new Fine = Writes old new (λ text. IsReportOfWords words holding taken text Fine)
IsEnding words holding taken old new SomeFalse =
    Writes old new (λ text. IsReportOfWords words holding taken text SomeFalse)
IsEnding words holding taken old new SomeUndecided =
    Writes old new (λ text. IsReportOfWords words holding taken text SomeUndecided)
IsEnding words holding taken old new ModelRefused =
    Writes old new (λ text. IsRefusalOfWords words holding taken text ModelRefused)
IsEnding words holding taken old new CertificateRefused =
    Writes old new (λ text. IsRefusalOfWords words holding taken text CertificateRefused)
IsEnding words holding taken old new Usage = Writes old new (λ text. IsUsageOfWords words text)
IsEnding words holding taken old new ReadFault = IsUnreadOfWords words taken × (new ≡ old)
IsEnding words holding taken old new WriteFault = WritesFront old new (λ text. IsOutput words holding taken text)
IsEnding words holding taken old new OutOfMemory = new ≡ old

-- 3. What a run asks of the shelf.

-- The words denote no command that reads files.
abbrev pub NeedNoFile : List (List ℕ) → Type 0
NeedNoFile words = (command : Command) → AreCommand words command → ¬ ReadsFiles command

-- The words need no file, or the shelf can be read: it is steady, or no fault of it arose.
abbrev pub IsReadable : {S : Type 0} → (S → Bool) → (S → ℕ) → List (List ℕ) → S → S → Type 0
IsReadable steady faults words old new = NeedNoFile words ⊎ ((steady old ≡ true) ⊎ (¬ Rose (faults old) (faults new)))

-- The words denote a command and, if the holding is known, a text that the command needs is not held.
pub record IsMissingOfWords (words : List (List ℕ)) (holding : Option Holding) : Type 0 where
  pub command : Command
  pub denoted : AreCommand words command
  pub missing : IfKnown holding (λ held. IsMissing held command)

-- This is what a run with these words does to a shelf, by the status with which it ends.
pub record AsksShelf {S : Type 0} (held : S → Option Holding) (steady : S → Bool) (faults took : S → ℕ)
    (words : List (List ℕ)) (old new : S) (status : Status) : Type 0 where
  -- If no file is needed, the shelf is not asked.
  pub untouched : NeedNoFile words → new ≡ old
  -- The holding and the steadiness stay the same, and the count of faults does not fall.
  pub kept : KeepsShelf (held old) (held new) (steady old) (steady new) (faults old) (faults new)
  pub taken : (took new ≡ took old) ⊎ (took new ≤ most_bytes + piece_size)
  -- A run ends with a fault of reading only if the count rose, and over a steady shelf only if a text is not held.
  pub read_fault : status ≡ ReadFault → Rose (faults old) (faults new)
  pub steadily : status ≡ ReadFault → steady old ≡ true → IsMissingOfWords words (held old)

-- 4. What is made for words.

-- What was made is the report of the command that the words denote, or its refusal, or a text of it could not be read,
-- or memory ran out.
abbrev pub AnswersWords : List (List ℕ) → Option Holding → ℕ → Result Answer End → Type 0
AnswersWords words holding taken (Ok answer) = IsReportOfWords words holding taken answer.text.items answer.status
AnswersWords words holding taken (Err end.OutOfMemory) = Unit {0}
AnswersWords words holding taken (Err end.ReadFault) = IsUnreadOfWords words taken
AnswersWords words holding taken (Err (end.Refused refusal)) = RefusesWords words holding taken refusal

-- The words denote a command, and all that it needs is held and accepted.
pub record IsAcceptedOfWords (words : List (List ℕ)) (holding : Option Holding) : Type 0 where
  pub command : Command
  pub denoted : AreCommand words command
  pub accepted : IsAcceptedFrom holding command
