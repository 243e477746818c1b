-- An entry is judged as far as 64 bits go.
use Rattle.std.proofs.Common.{◌≡◌, ◌<◌, ◌-◌, ◌^◌, ℕ, Bool, true, false, Option, Some, None, Ok, ap, ◌∙◌, refl, arith}
use Rattle.std.proofs.Common.{leb, ◌&&◌}
use Rattle.std.specs.Option.{option_map}
use Rattle.std.proofs.lemmas.Bool.Decides.{nat_tests}
use Rattle.game_model.specs.Limits.{unit}
use Rattle.text_lines.specs.Text.{saturated}
use Rattle.plan_text.specs.Entries.{EntryOf, Entry, greatest_choice, greatest_rank}
use Rattle.plan_text.specs.Said.{is_small, is_in_range_by, judged_by, judged}
use Rattle.plan_text.specs.Parts.{saturated_entry}

pub leb-saturated : (n most : ℕ) → most < 2 ^ 64 - 1 → leb (saturated n) most ≡ leb n most
leb-saturated n most room = grind (arith, nat_tests)

is_small-saturated : (choice : Option ℕ) → is_small (option_map saturated choice) ≡ is_small choice
is_small-saturated None = refl
is_small-saturated (Some c) = leb-saturated c greatest_choice (omega arith)

pub saturated-within : (n most : ℕ) → most < 2 ^ 64 → leb n most ≡ true → saturated n ≡ n
saturated-within n most room small = grind (arith, nat_tests)

saturated-small : (choice : Option ℕ) → is_small choice ≡ true → option_map saturated choice ≡ choice
saturated-small None small = refl
saturated-small (Some c) small = ap (λ n. Some n) (saturated-within c greatest_choice (omega arith) small)

-- what 64 bits keep of a value is judged as the value is, and it is the value where this is within its limit
pub record IsJudgedAlike (Value : Type 0) (is_value : Value → Bool) (kept : Value → Value) : Type 0 where
  pub alike : (value : Value) → is_value (kept value) ≡ is_value value
  pub same : (value : Value) → is_value value ≡ true → kept value ≡ value

module _ (Value : Type 0) (is_value : Value → Bool) (kept : Value → Value)
    (law : IsJudgedAlike Value is_value kept) where
  is_in_range-saturated : (entry : EntryOf Value)
      → is_in_range_by is_value (saturated_entry kept entry) ≡ is_in_range_by is_value entry
  is_in_range-saturated entry = simp (
    law.alike,
    is_small-saturated,
    leb-saturated entry.rank greatest_rank (omega arith),
  )

  saturated_entry-in_range : (entry : EntryOf Value) → is_in_range_by is_value entry ≡ true
      → saturated_entry kept entry ≡ entry
  saturated_entry-in_range entry within =
      let parts = and_all (is_value entry.lower) (is_value entry.upper) (is_small entry.choice) (is_small entry.reply)
      (leb entry.rank greatest_rank) within in
      simp (
        law.same entry.lower parts.0,
        law.same entry.upper parts.1,
        saturated-small entry.choice parts.2,
        saturated-small entry.reply parts.3,
        saturated-within entry.rank greatest_rank (omega arith) parts.4,
      )
    where
      and_all : (a b c d e : Bool) → (a && b && c && d && e) ≡ true
          → (a ≡ true) × (b ≡ true) × (c ≡ true) × (d ≡ true) × (e ≡ true)
      and_all a b c d e all = grind (arith, nat_tests)

  judged-saturated : (entry : Option (EntryOf Value)) → judged_by (is_in_range_by is_value)
      (option_map (saturated_entry kept) entry) ≡ judged_by (is_in_range_by is_value) entry
  judged-saturated None = refl
  judged-saturated (Some entry) = by (is_in_range_by is_value entry) refl
    where
      by : (v : Bool) → is_in_range_by is_value entry ≡ v
          → judged_by (is_in_range_by is_value) (Some (saturated_entry kept entry))
          ≡ judged_by (is_in_range_by is_value) (Some entry)
      by false outside = simp (is_in_range-saturated entry, outside)
      by true within =
          simp (is_in_range-saturated entry, within) (ap (λ e. Ok e) (saturated_entry-in_range entry within))

  -- what was read is judged as what is spelled
  pub judged-read : (read entry : Option (EntryOf Value)) → read ≡ option_map (saturated_entry kept) entry
      → judged_by (is_in_range_by is_value) read ≡ judged_by (is_in_range_by is_value) entry
  judged-read read entry same = ap (judged_by (is_in_range_by is_value)) same ∙ judged-saturated entry

-- a count of units is kept as it is
units_alike : (is_value : ℕ → Bool) → IsJudgedAlike ℕ is_value (λ value. value)
units_alike is_value = record { alike = λ value. refl; same = λ value within. refl }

-- and what was read of the line of a state is judged as what the line spells
pub units-read : (read entry : Option Entry) → read ≡ option_map (saturated_entry (λ value. value)) entry
    → judged read ≡ judged entry
units-read = judged-read ℕ (λ value. leb value unit) (λ value. value) (units_alike (λ value. leb value unit))
