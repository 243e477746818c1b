-- What loading answers of a file that is read by lines.
use Rattle.std.proofs.Common.{◌≡◌, ◌∙◌, ◌<◌, ◌≤◌, ℕ, Bool, true, List, length, Option, Some, None, Result, Ok, Err}
use Rattle.std.proofs.Common.{refl, sym, ap, subst}
use Rattle.std.specs.Prelude.{IsSome}
use Rattle.text_lines.specs.Limits.{most_bytes}
use Rattle.game_outside.specs.declared.file.FileEnd.{FileEnd}
use Rattle.game_outside.specs.declared.file.FileEnd.TheVariants as file
use Rattle.game_outside.specs.Outside.{Holding, Holds, IsHeldAs, IsHeldLonger}
use Rattle.game_outside.specs.Files.{HeldTextWith, ReadsFile}
use Rattle.inputs.specs.declared.load.End.{End}
use Rattle.inputs.specs.declared.load.End.TheVariants.{Refused, ReadFault}
use Rattle.output.specs.declared.refusal.Text.{Text}
use Rattle.output.specs.declared.refusal.Refusal.{Refusal}
use Rattle.output.specs.declared.refusal.Refusal.TheVariants.{TooLong}
use Rattle.inputs.specs.Said.{Said, Refuses, and_then, read_said}
use Rattle.inputs.specs.Sources.{IfKnown}
use Rattle.inputs.specs.Loading.{LoadsText, fault_of}
use Rattle.inputs.specs.Texts.{text_said}
use Rattle.inputs.proofs.Lengths.{short_says, long_refuses, longer}
use Rattle.inputs.proofs.Loading.{read_as_told, wanting}

-- what is held under a name is the text
pub as_held : (holding : Option Holding) (name bytes : List ℕ) → IsHeldAs holding name bytes
    → IfKnown holding (λ held. Some bytes ≡ held name)
as_held None name bytes is = tt
as_held (Some held) name bytes is = sym is

none_there : (source : Option (List ℕ)) → (IsSome source → ⊥) → None ≡ source
none_there None absent = refl
none_there (Some bytes) absent = absurd (absent refl)

module _ {X F : Type 0} (text : Text) (refusal : F → Refusal) (said : List ℕ → Result X F) (holding : Option Holding)
    (steady : Bool) (name : List ℕ) where
  -- what is said of a text that may not be there
  abbrev said_of : Option (List ℕ) → Said X
  said_of source = and_then (text_said text source) (λ bytes. read_said refusal (said bytes))

  abbrev Answers : Result X End → Type 0
  Answers result = LoadsText holding steady (λ held. held name) (λ x. x) result said_of

  says_so : (bytes : List ℕ) (answer : Result X F) → length bytes ≤ most_bytes → said bytes ≡ answer
      → said_of (Some bytes) ≡ read_said refusal answer
  says_so bytes answer short is =
      ap (λ s. and_then s (λ bytes. read_said refusal (said bytes))) (short_says text bytes short)
      ∙ ap (λ r. read_said refusal r) is

  pub file_read : (x : X) → HeldTextWith holding name most_bytes (λ bytes. said bytes ≡ Ok x) → Answers (Ok x)
  file_read x of = read_as_told holding steady (λ held. held name) (λ x. x) (Ok x) said_of (Some of.text)
      (as_held holding name of.text of.told) (says_so of.text (Ok x) of.within of.holds)

  long_so : (bytes : List ℕ) → most_bytes < length bytes → said_of (Some bytes) ≡ Refuses (TooLong text)
  long_so bytes long = ap (λ s. and_then s (λ bytes. read_said refusal (said bytes))) (long_refuses text bytes long)

  too_long : (holding : Option Holding) → IsHeldLonger holding name most_bytes
      → LoadsText holding steady (λ held. held name) (λ x. x) (Err (Refused (TooLong text))) said_of
  too_long None is =
      let some = longer most_bytes in
      read_as_told None steady (λ held. held name) (λ x. x) (Err (Refused (TooLong text))) said_of (Some some.0) tt
      (long_so some.0 some.1)
  too_long (Some held) is = read_as_told (Some held) steady (λ held. held name) (λ x. x)
      (Err (Refused (TooLong text))) said_of (Some is.0) (sym is.1) (long_so is.0 is.2)

  not_read : (holding : Option Holding) → (steady ≡ true → Holds holding name → ⊥)
      → LoadsText holding steady (λ held. held name) (λ x. x) (Err ReadFault) said_of
  not_read None never = record { source = None; told = λ fails. tt; steadily = λ calm. tt; loads = refl }
  not_read (Some held) never = record {
    source = None;
    told = λ fails. absurd (fails refl);
    steadily = λ calm. none_there (held name) (never calm);
    loads = refl;
  }

  -- a file that is not read to its end
  pub file_unread : (end : FileEnd F) (how : End) → fault_of text end ≡ Err how
      → ReadsFile {X = X} (λ bytes answer. said bytes ≡ answer) holding name most_bytes (Err end)
      → (end ≡ file.ReadFault → steady ≡ true → Holds holding name → ⊥) → Answers (Err how)
  file_unread file.OutOfMemory how is reads never =
      subst (λ e. Answers (Err e)) (cc (is)) (wanting holding steady (λ held. held name) (λ x. x) said_of)
  file_unread file.ReadFault how is reads never = subst (λ e. Answers (Err e)) (cc (is)) (not_read holding (never refl))
  file_unread file.TooLong how is reads never = subst (λ e. Answers (Err e)) (cc (is)) (too_long holding reads)
  file_unread (file.Refused fault) how is reads never = absurd (cc (is))

  -- one that the reader refuses
  pub file_refused : (end : FileEnd F) (fault : F) → fault_of text end ≡ Ok fault
      → ReadsFile {X = X} (λ bytes answer. said bytes ≡ answer) holding name most_bytes (Err end)
      → Answers (Err (Refused (refusal fault)))
  file_refused file.OutOfMemory fault is reads = absurd (cc (is))
  file_refused file.ReadFault fault is reads = absurd (cc (is))
  file_refused file.TooLong fault is reads = absurd (cc (is))
  file_refused (file.Refused other) fault is of =
      let said_other = read_as_told holding steady (λ held. held name) (λ x. x) (Err (Refused (refusal other))) said_of
      (Some of.text) (as_held holding name of.text of.told) (says_so of.text (Err other) of.within of.holds) in
      subst (λ (f : F). Answers (Err (Refused (refusal f)))) (cc (is)) said_other
