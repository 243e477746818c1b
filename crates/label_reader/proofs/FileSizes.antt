-- The labels and the owners of a text, and of a file, are those of so many states.
use Rattle.std.proofs.Common.{◌≡◌, ℕ, List, Option, Result, Ok, Err, IfOk, length}
use Rattle.game_outside.specs.Answers.{AnswersOrWants}
use Rattle.game_outside.specs.declared.file.FileEnd.{FileEnd}
use Rattle.game_outside.specs.Outside.{Holding}
use Rattle.game_outside.specs.Files.{ReadsFile}
use Rattle.label_lines.specs.declared.faults.LabFault.{LabFault}
use Rattle.label_lines.specs.Labels.{Labelling}
use Rattle.label_lines.specs.Owners.{Ownership}
use Rattle.label_lines.specs.Texts.{labels_of, owners_of, IsOutOfMemory}
use Rattle.label_lines.proofs.LabelLaws.{labels_of-found}
use Rattle.label_lines.proofs.OwnerLaws.{owners_of-found}

module _ (states : ℕ) (text : List ℕ) where
  pub labels_of_text_sized : (result : Result Labelling LabFault)
      → AnswersOrWants IsOutOfMemory (λ x. x) result (labels_of text states) → IfOk result (λ l. l.states ≡ states)
  labels_of_text_sized (Ok l) said = (labels_of-found text states l said).states
  labels_of_text_sized (Err fault) said = tt

  pub owners_of_text_sized : (result : Result Ownership LabFault)
      → AnswersOrWants IsOutOfMemory (λ x. x) result (owners_of text states)
      → IfOk result (λ o. length o.owners ≡ states)
  owners_of_text_sized (Ok o) said = (owners_of-found text states o said).owners
  owners_of_text_sized (Err fault) said = tt

module _ (states : ℕ) (holding : Option Holding) (name : List ℕ) (limit : ℕ) where
  pub labels_sized : (result : Result Labelling (FileEnd LabFault))
      → ReadsFile (λ text answer. labels_of text states ≡ answer) holding name limit result
      → IfOk result (λ l. l.states ≡ states)
  labels_sized (Ok l) of = (labels_of-found of.text states l of.holds).states
  labels_sized (Err end) of = tt

  pub owners_sized : (result : Result Ownership (FileEnd LabFault))
      → ReadsFile (λ text answer. owners_of text states ≡ answer) holding name limit result
      → IfOk result (λ o. length o.owners ≡ states)
  owners_sized (Ok o) of = (owners_of-found of.text states o of.holds).owners
  owners_sized (Err end) of = tt
