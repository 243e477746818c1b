-- What a reader of lines says of a text is what is said of a file.
use Rattle.std.proofs.Common.{◌≡◌, inl, inr, ℕ, Bool, true, false, List, Option, Some, Result, Ok, Err, ap, ◌∙◌, refl}
use Rattle.std.proofs.Common.{subst, if◌then◌else◌}
use Rattle.game_outside.specs.declared.file.FileEnd.{FileEnd}
use Rattle.game_outside.specs.declared.file.FileEnd.TheVariants as file
use Rattle.game_outside.specs.Outside.{Holding}
use Rattle.game_outside.specs.Files.{HeldTextWith, ReadsFile}
use Rattle.game_model.specs.Game.{Distribution}
use Rattle.transition_lines.specs.declared.fault.TraFault.{TraFault}
use Rattle.tra_reader.specs.declared.stop.Stop.{Stop}
use Rattle.tra_reader.specs.declared.stop.Stop.TheVariants as stop
use Rattle.game_outside.specs.Answers.{AnswersOrWants}
use Rattle.transition_lines.specs.Faults.{IsOutOfMemory}
use Rattle.tra_reader.specs.inside.Reading.{IsAnswer}
use Rattle.tra_reader.specs.inside.Ordered.{text_fault}
use Rattle.tra_reader.specs.FileEnds.{is_out_of_memory, without_want_of, in_order_of}

of_text : (holding : Option Holding) (name : List ℕ) (limit : ℕ) (P Q : List ℕ → Type 0)
    → ((text : List ℕ) → P text → Q text) → HeldTextWith holding name limit P → HeldTextWith holding name limit Q
of_text holding name limit P Q step of =
    record { text = of.text; told = of.told; within = of.within; holds = step of.text of.holds }

module _ (holding : Option Holding) (name : List ℕ) (limit : ℕ) where
  -- an answer that is right in one way is right in another
  pub reads_so : {X F : Type 0} (P Q : List ℕ → Result X F → Type 0)
      → ((text : List ℕ) (answer : Result X F) → P text answer → Q text answer) → (read : Result X (FileEnd F))
      → ReadsFile P holding name limit read → ReadsFile Q holding name limit read
  reads_so P Q step (Ok x) of = of_text holding name limit _ _ (λ text holds. step text (Ok x) holds) of
  reads_so P Q step (Err (file.Refused fault)) of =
      of_text holding name limit _ _ (λ text holds. step text (Err fault) holds) of
  reads_so P Q step (Err file.OutOfMemory) of = tt
  reads_so P Q step (Err file.ReadFault) of = tt
  reads_so P Q step (Err file.TooLong) of = of

  module _ (said : List ℕ → Result (List (List Distribution)) TraFault) where
    abbrev Exact : Result (List (List Distribution)) (FileEnd TraFault) → Type 0
    Exact after = ReadsFile (λ text answer. said text ≡ answer) holding name limit after

    refused : (fault : TraFault) (want : Bool) → want ≡ is_out_of_memory fault.cause → HeldTextWith holding name limit
        (λ text. AnswersOrWants {X = List (List Distribution)} IsOutOfMemory (λ g. g) (Err fault) (said text))
        → Exact (if want then Err file.OutOfMemory else Err (file.Refused fault))
    refused fault true is of = tt
    refused fault false is of = of_text holding name limit _ _ by of
      where
        by : (text : List ℕ)
            → AnswersOrWants {X = List (List Distribution)} IsOutOfMemory (λ g. g) (Err fault) (said text)
            → said text ≡ Err fault
        by text holds = elim holds [
          | inl want ↦ absurd (no (is ∙ ap (λ f. is_out_of_memory f.cause) want))
          | inr said_so ↦ said_so
        ]
          where
            no : false ≡ true → ⊥
            no h = cc

    -- want of memory refuses no text, so what is left is exact
    pub reads_exactly : (read : Result (List (List Distribution)) (FileEnd TraFault))
        → ReadsFile (λ text answer. AnswersOrWants IsOutOfMemory (λ g. g) answer (said text)) holding name limit read
        → Exact (without_want_of read)
    reads_exactly (Ok game) of = of
    reads_exactly (Err (file.Refused fault)) of = refused fault (is_out_of_memory fault.cause) refl of
    reads_exactly (Err file.OutOfMemory) of = tt
    reads_exactly (Err file.ReadFault) of = tt
    reads_exactly (Err file.TooLong) of = of

    abbrev Right : Result (List (List Distribution)) (FileEnd TraFault) → Type 0
    Right found = ReadsFile (λ text answer. AnswersOrWants IsOutOfMemory (λ g. g) answer (said text))
        holding name limit found

    -- what was read in order
    pub reads_in_order : (read : Result (List (List Distribution)) (FileEnd Stop))
        (found : Result (List (List Distribution)) (FileEnd TraFault)) → Some found ≡ in_order_of read
        → ReadsFile (λ text answer. IsAnswer text_fault answer (said text)) holding name limit read
        → ReadsFile (λ text answer. AnswersOrWants IsOutOfMemory (λ g. g) answer (said text)) holding name limit found
    reads_in_order read found is of = by read found is of
      where
        some_is : (a b : Result (List (List Distribution)) (FileEnd TraFault)) → Some a ≡ Some b → b ≡ a
        some_is a b h = cc

        by : (read : Result (List (List Distribution)) (FileEnd Stop))
            (found : Result (List (List Distribution)) (FileEnd TraFault)) → Some found ≡ in_order_of read
            → ReadsFile (λ text answer. IsAnswer text_fault answer (said text)) holding name limit read → Right found
        by (Ok game) found is of = subst Right (some_is _ _ is) of
        by (Err (file.Refused stop.OutOfOrder)) found is of = cc
        by (Err (file.Refused (stop.Refused fault))) found is of =
            subst Right (some_is _ _ is) (of_text holding name limit _ _ (λ text holds. holds fault refl) of)
        by (Err file.OutOfMemory) found is of = subst Right (some_is _ _ is) tt
        by (Err file.ReadFault) found is of = subst Right (some_is _ _ is) tt
        by (Err file.TooLong) found is of = subst Right (some_is _ _ is) of
