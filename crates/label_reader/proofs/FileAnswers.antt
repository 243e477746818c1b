-- What a reader of lines says of a text is what is said of a file.
use Rattle.std.proofs.Common.{◌≡◌, inl, inr, ℕ, Bool, true, false, List, Option, None, Some, MatchOption, Result, Ok}
use Rattle.std.proofs.Common.{Err, sym, ap, ◌∙◌, refl, subst}
use Rattle.game_outside.specs.declared.file.FileEnd.{FileEnd}
use Rattle.game_outside.specs.declared.file.FileEnd.TheVariants as file
use Rattle.game_outside.specs.Outside.{Holding}
use Rattle.game_outside.specs.Files.{HeldTextWith, ReadsFile}
use Rattle.label_lines.specs.declared.faults.LabFault.{LabFault}
use Rattle.text_lines.specs.Text.{lines_of, significant}
use Rattle.label_lines.specs.declared.kind.FileKind.{FileKind}
use Rattle.label_lines.specs.Header.{Item}
use Rattle.label_lines.specs.Lines.{StateLine}
use Rattle.game_outside.specs.Answers.{AnswersOrWants}
use Rattle.label_lines.specs.Texts.{said_by, said_by_lines, IsOutOfMemory}
use Rattle.label_reader.specs.Refused.{is_out_of_memory, IsWithoutWant}

of_text : (holding : Option Holding) (name : List ℕ) (limit : ℕ) (P Q : List ℕ → Type 0)
    → ((text : List ℕ) → P text → Q text) → HeldTextWith holding name limit P → HeldTextWith holding name limit Q
of_text holding name limit P Q step of =
    record { text = of.text; told = of.told; within = of.within; holds = step of.text of.holds }

module _ {X : Type 0} (said : List ℕ → Result X LabFault) (Answers : List ℕ → Result X LabFault → Type 0)
    (gives : (text : List ℕ) (answer : Result X LabFault) → Answers text answer
    → AnswersOrWants IsOutOfMemory (λ x. x) answer (said text))
    (holding : Option Holding) (name : List ℕ) (limit : ℕ) where
  abbrev Exact : Result X (FileEnd LabFault) → Type 0
  Exact after = ReadsFile (λ text answer. said text ≡ answer) holding name limit after

  refused : (fault : LabFault) (want : Bool) → want ≡ is_out_of_memory fault.cause
      → (after : Result X (FileEnd LabFault)) → IsWithoutWant (Err (file.Refused fault)) after
      → HeldTextWith holding name limit (λ text. Answers text (Err fault)) → Exact after
  refused fault true is after without of = subst Exact (sym (without.0 (sym is))) tt
  refused fault false is after without of =
      subst Exact (sym (without.1 (sym is))) (of_text holding name limit _ _ by of)
    where
      by : (text : List ℕ) → Answers text (Err fault) → said text ≡ Err fault
      by text holds = elim (gives text (Err fault) holds) [
        | inl want ↦ absurd (no (is ∙ ap (λ f. is_out_of_memory f.cause) want))
        | inr said_so ↦ said_so
      ]
        where
          no : false ≡ true → ⊥
          no h = cc

  exactly : (read after : Result X (FileEnd LabFault)) → IsWithoutWant read after
      → ReadsFile Answers holding name limit read → Exact after
  exactly (Ok x) after without of =
      subst Exact (sym without) (of_text holding name limit _ _ (λ text holds. gives text (Ok x) holds) of)
  exactly (Err (file.Refused fault)) after without of =
      refused fault (is_out_of_memory fault.cause) refl after without of
  exactly (Err file.OutOfMemory) after without of = subst Exact (sym without) tt
  exactly (Err file.ReadFault) after without of = subst Exact (sym without) tt
  exactly (Err file.TooLong) after without of = subst Exact (sym without) of

-- A reader that has taken nothing yet says of a text what is said of it.
pub says_exactly : {X R : Type 0} (kind : FileKind) (make : ℕ → List Item → List StateLine → X) (states n : ℕ)
    (behind : Option R) (lines : List (List ℕ)) (answer : Result X LabFault) (Rest : R → Type 0)
    → behind ≡ None → n ≡ states → MatchOption behind
    (◌≡◌ {A = ℕ} 1 1 → AnswersOrWants IsOutOfMemory (λ x. x) answer (said_by_lines kind n (make n) lines)) Rest
    → AnswersOrWants IsOutOfMemory (λ x. x) answer (said_by_lines kind states (make states) lines)
says_exactly kind make states n None lines answer Rest is same holds =
    subst (λ m. AnswersOrWants IsOutOfMemory (λ x. x) answer (said_by_lines kind m (make m) lines)) same (holds refl)
says_exactly kind make states n (Some reader) lines answer Rest is same holds = cc

-- the same of a file
pub reads_exactly : {X R : Type 0} (kind : FileKind) (make : ℕ → List Item → List StateLine → X) (states n : ℕ)
    (behind : Option R) (Rest : List ℕ → Result X LabFault → R → Type 0)
    → behind ≡ None → n ≡ states → (holding : Option Holding) (name : List ℕ) (limit : ℕ)
    (read after : Result X (FileEnd LabFault)) → IsWithoutWant read after
    → ReadsFile (λ text answer. MatchOption behind (◌≡◌ {A = ℕ} 1 1 → AnswersOrWants IsOutOfMemory (λ x. x) answer
    (said_by_lines kind n (make n) (significant (lines_of text)))) (Rest text answer)) holding name limit read
    → ReadsFile (λ text answer. said_by kind states (make states) text ≡ answer) holding name limit after
reads_exactly kind make states n None Rest is same holding name limit read after without of =
    exactly (said_by kind states (make states)) (λ text answer. ◌≡◌ {A = ℕ} 1 1
    → AnswersOrWants IsOutOfMemory (λ x. x) answer (said_by_lines kind n (make n) (significant (lines_of text))))
    (λ text answer. says_exactly kind make states n None (significant (lines_of text)) answer
    (Rest text answer) is same) holding name limit read after without of
reads_exactly kind make states n (Some reader) Rest is same holding name limit read after without of = cc
