-- A state's line is read back.
use Rattle.std.proofs.Common.{◌≡◌, ◌∙◌, ◌<◌, ◌^◌, ℕ, List, [], ◌∷◌, ◌++◌, Option, Some, true, false, refl, ap}
use Rattle.std.proofs.Common.{arith, append_assoc}
use Rattle.std.specs.Prelude.{◌==◌, decimal}
use Rattle.std.proofs.lemmas.Bool.Decides.{nat_tests}
use Rattle.text_lines.specs.Text.{lines_of, fields_of, number_of, is_nil}
use Rattle.text_lines.proofs.NumberLaws.{number_of-decimal}
use Rattle.plan_text.specs.Entries.{EntryOf, IsInRangeOf}
use Rattle.plan_text.specs.Written.{choice_text, behind_space, entry_text_by}
use Rattle.plan_text.specs.Said.{choice_in, entry_in_by}
use Rattle.plan_text.proofs.WrittenFields.{spaced, IsField, AreFields, fields_of-spaced, lines_of-spaced}
use Rattle.plan_text.proofs.WrittenFields.{IsField-decimal, IsField-choice}
use Rattle.plan_text.proofs.FieldsReadBack.{choice_in-choice_text}

-- the text of a value is a field, and it is read back
pub record AreReadBack (Value : Type 0) (value_text : Value → List ℕ) (value_in : List ℕ → Option Value)
    (IsValue : Value → Type 0) : Type 0 where
  pub field : (value : Value) → IsValue value → IsField (value_text value)
  pub back : (value : Value) → IsValue value → value_in (value_text value) ≡ Some value

-- the fields behind the state
abbrev pub later_fields : {Value : Type 0} → (Value → List ℕ) → EntryOf Value → List (List ℕ)
later_fields value_text entry = value_text entry.lower ∷ choice_text entry.choice ∷ decimal entry.rank
    ∷ value_text entry.upper ∷ choice_text entry.reply ∷ []

-- the line without its ending
abbrev pub entry_line : {Value : Type 0} → (Value → List ℕ) → ℕ → EntryOf Value → List ℕ
entry_line value_text s entry = spaced (decimal s) (later_fields value_text entry)

-- the fields, with a space between them and the ending behind them
in_order : (a b c d e f rest : List ℕ)
    → (a ++ (behind_space b ++ (behind_space c ++ (behind_space d ++ (behind_space e ++ (behind_space f ++ 10 ∷ []))))))
    ++ rest ≡ spaced a (b ∷ c ∷ d ∷ e ∷ f ∷ []) ++ 10 ∷ rest
unfolding spaced
in_order a b c d e f rest = simp append_assoc

module _ (Value : Type 0) (value_text : Value → List ℕ) (value_in : List ℕ → Option Value) (IsValue : Value → Type 0)
    (law : AreReadBack Value value_text value_in IsValue) where
  AreFields-later : (entry : EntryOf Value) → IsInRangeOf Value IsValue entry
      → AreFields (later_fields value_text entry)
  AreFields-later entry is = (
    law.field entry.lower is.lower,
    (
      IsField-choice entry.choice is.choice,
      (
        IsField-decimal entry.rank (omega (arith, is.rank)),
        (law.field entry.upper is.upper, (IsField-choice entry.reply is.reply, tt)),
      ),
    ),
  )

  pub fields_of-entry_line : (s : ℕ) (entry : EntryOf Value) → s < 2 ^ 64 → IsInRangeOf Value IsValue entry
      → fields_of (entry_line value_text s entry) ≡ decimal s ∷ later_fields value_text entry
  fields_of-entry_line s entry small is = fields_of-spaced (decimal s) (later_fields value_text entry)
      (IsField-decimal s small) (AreFields-later entry is)

  -- where each field is read, the entry is
  entry_in-read : (s : ℕ) (entry : EntryOf Value) (state lower choice rank upper reply : List ℕ)
      → number_of state ≡ Some s → value_in lower ≡ Some entry.lower → choice_in choice ≡ Some entry.choice
      → number_of rank ≡ Some entry.rank → value_in upper ≡ Some entry.upper → choice_in reply ≡ Some entry.reply
      → entry_in_by value_in s (state ∷ lower ∷ choice ∷ rank ∷ upper ∷ reply ∷ []) ≡ Some entry
  entry_in-read s entry state lower choice rank upper reply state_read lower_read choice_read rank_read
      upper_read reply_read =
      let same : (s == s) ≡ true = grind (arith, nat_tests) in
      rw (state_read, same, lower_read, choice_read, rank_read, upper_read, reply_read) refl

  pub entry_in-written : (s : ℕ) (entry : EntryOf Value) → s < 2 ^ 64 → IsInRangeOf Value IsValue entry
      → entry_in_by value_in s (fields_of (entry_line value_text s entry)) ≡ Some entry
  entry_in-written s entry small is =
      ap (λ fs. entry_in_by value_in s fs) (fields_of-entry_line s entry small is)
      ∙ entry_in-read s entry (decimal s) (value_text entry.lower) (choice_text entry.choice) (decimal entry.rank)
      (value_text entry.upper) (choice_text entry.reply)
      (number_of-decimal s small) (law.back entry.lower is.lower) (choice_in-choice_text entry.choice is.choice)
      (number_of-decimal entry.rank (omega (arith, is.rank))) (law.back entry.upper is.upper)
      (choice_in-choice_text entry.reply is.reply)

  pub not_blank-entry_line : (s : ℕ) (entry : EntryOf Value) → s < 2 ^ 64 → IsInRangeOf Value IsValue entry
      → is_nil (fields_of (entry_line value_text s entry)) ≡ false
  not_blank-entry_line s entry small is = ap (λ fs. is_nil fs) (fields_of-entry_line s entry small is)

  pub lines_of-entry_text : (s : ℕ) (entry : EntryOf Value) (rest : List ℕ) → s < 2 ^ 64
      → IsInRangeOf Value IsValue entry
      → lines_of (entry_text_by value_text s entry ++ rest) ≡ entry_line value_text s entry ∷ lines_of rest
  lines_of-entry_text s entry rest small is =
      ap lines_of (in_order (decimal s) (value_text entry.lower) (choice_text entry.choice) (decimal entry.rank)
      (value_text entry.upper) (choice_text entry.reply) rest)
      ∙ lines_of-spaced (decimal s) (later_fields value_text entry) rest (IsField-decimal s small)
      (AreFields-later entry is)
