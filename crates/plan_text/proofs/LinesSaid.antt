-- What is read of a line is the entry that it spells, in range.
use Rattle.std.proofs.Common.{◌≡◌, ◌∙◌, ◌≤◌, ℕ, Bool, true, false, cond, List, [], ◌∷◌, Option, Some, None, Ok, Err}
use Rattle.std.proofs.Common.{refl}
use Rattle.std.proofs.Common.{ap, subst, arith, leb, le-leb, ◌&&◌}
use Rattle.std.proofs.lemmas.Bool.{leb-true}
use Rattle.std.proofs.lemmas.Bool.Decides.{nat_tests}
use Rattle.text_lines.specs.Text.{fields_of, is_nil}
use Rattle.plan_text.specs.declared.fault.PlanCause.TheVariants.{NumberOutOfRange}
use Rattle.plan_text.specs.declared.version.Version.{Version}
use Rattle.game_model.specs.Limits.{unit}
use Rattle.plan_text.specs.Entries.{EntryOf, Entry, IsInRangeOf, IsInRange, IsSmall, greatest_rank}
use Rattle.plan_text.specs.Said.{judged_by, judged, is_in_range_by, is_small, entry_in_by, entry_in}
use Rattle.plan_text.specs.Said.{units_of, line_said}
use Rattle.plan_text.specs.Certificate.{IsEntryLine}
use Rattle.plan_text.proofs.StatesRead.{AreSaid}

small : (choice : Option ℕ) → is_small choice ≡ true → IsSmall choice
small None is = tt
small (Some choice) is = grind (arith, nat_tests)

tested_small : (choice : Option ℕ) → IsSmall choice → is_small choice ≡ true
tested_small None is = refl
tested_small (Some choice) is = grind (arith, nat_tests)

-- the test decides whether a value is within its limit
pub record IsTested (Value : Type 0) (is_value : Value → Bool) (IsValue : Value → Type 0) : Type 0 where
  pub holds : (value : Value) → is_value value ≡ true → IsValue value
  pub tested : (value : Value) → IsValue value → is_value value ≡ true

all_true : (a b c d e : Bool) → (a && b && c && d && e) ≡ true
    → (a ≡ true) × (b ≡ true) × (c ≡ true) × (d ≡ true) × (e ≡ true)
all_true a b c d e all = grind (arith, nat_tests)

module _ (Value : Type 0) (is_value : Value → Bool) (IsValue : Value → Type 0)
    (law : IsTested Value is_value IsValue) where
  pub in_range : (entry : EntryOf Value) → is_in_range_by is_value entry ≡ true → IsInRangeOf Value IsValue entry
  in_range entry is =
      let parts = all_true (is_value entry.lower) (is_value entry.upper) (is_small entry.choice) (is_small entry.reply)
      (leb entry.rank greatest_rank) is in
      record {
        lower = law.holds entry.lower parts.0;
        choice = small entry.choice parts.2;
        rank = leb-true entry.rank greatest_rank parts.4;
        upper = law.holds entry.upper parts.1;
        reply = small entry.reply parts.3;
      }

  tested_in_range : (entry : EntryOf Value) → IsInRangeOf Value IsValue entry → is_in_range_by is_value entry ≡ true
  tested_in_range entry is =
      simp (
        law.tested entry.lower is.lower,
        law.tested entry.upper is.upper,
        tested_small entry.choice is.choice,
        tested_small entry.reply is.reply,
        le-leb entry.rank greatest_rank is.rank,
      )

  pub judged_by-one : (spelled : Option (EntryOf Value)) (entry : EntryOf Value)
      → judged_by (is_in_range_by is_value) spelled ≡ Ok entry
      → (spelled ≡ Some entry) × IsInRangeOf Value IsValue entry
  judged_by-one None entry said = cc
  judged_by-one (Some read) entry said = by (is_in_range_by is_value read) refl said
    where
      by : (v : Bool) → is_in_range_by is_value read ≡ v → cond v (Ok read) (Err NumberOutOfRange) ≡ Ok entry
          → (Some read ≡ Some entry) × IsInRangeOf Value IsValue entry
      by false outside same = cc
      by true within same =
          let is : read ≡ entry = cc in
          (ap (λ e. Some e) is, subst (IsInRangeOf Value IsValue) is (in_range read within))

  pub judged_by-in_range : (entry : EntryOf Value) → IsInRangeOf Value IsValue entry
      → judged_by (is_in_range_by is_value) (Some entry) ≡ Ok entry
  judged_by-in_range entry is =
      ap (λ v. cond v (Ok entry) (Err NumberOutOfRange)) (tested_in_range entry is)

-- a line that spells an entry is not blank
pub not_blank_by : (Value : Type 0) (value_in : List ℕ → Option Value) (s : ℕ) (line : List ℕ) (entry : EntryOf Value)
    → entry_in_by value_in s (fields_of line) ≡ Some entry → is_nil (fields_of line) ≡ false
not_blank_by Value value_in s line entry is = by (fields_of line) is
  where
    by : (fields : List (List ℕ)) → entry_in_by value_in s fields ≡ Some entry → is_nil fields ≡ false
    by [] none = cc
    by (field ∷ fields) some = refl

-- a count of units is at most the unit
units_tested : IsTested ℕ (λ value. leb value unit) (λ value. value ≤ unit)
units_tested = record {
  holds = λ value is. leb-true value unit is;
  tested = λ value is. le-leb value unit is;
}

pub judged-in_range : (entry : Entry) → IsInRange entry → judged (Some entry) ≡ Ok entry
judged-in_range = judged_by-in_range ℕ (λ value. leb value unit) (λ value. value ≤ unit) units_tested

pub said_of_version : (version : Version) → AreSaid Entry (line_said version) (IsEntryLine version)
said_of_version version = record {
  one = λ s line entry said. judged_by-one ℕ (λ value. leb value unit) (λ value. value ≤ unit) units_tested
      (entry_in version s (fields_of line)) entry said;
  told = λ s line entry is. ap judged is.0 ∙ judged-in_range entry is.1;
  some = λ s line entry is. not_blank_by ℕ (units_of version) s line entry is.0;
}
