-- The line of a state: what is read of it is what it spells, with bounds that go together.
use Rattle.std.proofs.Common.{◌≡◌, ◌∙◌, ℕ, Bool, true, false, cond, List, Option, Some, None, Ok}
use Rattle.std.proofs.Common.{refl, ap, subst, arith, le-leb}
use Rattle.std.specs.Option.{option_map}
use Rattle.std.proofs.lemmas.Bool.{leb-true}
use Rattle.game_model.specs.Limits.{unit}
use Rattle.text_lines.specs.Text.{fields_of, saturated}
use Rattle.plan_text.specs.Said.{entry_in_by, is_in_range_by, judged_by}
use Rattle.plan_text.specs.Parts.{saturated_entry}
use Rattle.plan_text.proofs.Judging.{IsJudgedAlike, judged-read, leb-saturated, saturated-within}
use Rattle.plan_text.proofs.LinesSaid.{IsTested, judged_by-one, judged_by-in_range, not_blank_by}
use Rattle.plan_text.proofs.StatesRead.{AreSaid}
use Rattle.reward_values.specs.Values.{IsValue}
use Rattle.reward_text.specs.Values.{value_in, is_value}
use Rattle.reward_text.specs.Entries.{RewardEntry, AreBounds, IsRewardEntry}
use Rattle.reward_text.specs.Said.{are_bounds, with_bounds, reward_entry_in, reward_line_said}
use Rattle.reward_text.specs.Certificate.{IsRewardLine}

-- 1. As far as 64 bits go.

values_alike : IsJudgedAlike (Option ℕ) is_value (option_map saturated)
values_alike = record { alike = alike; same = same }
  where
    alike : (value : Option ℕ) → is_value (option_map saturated value) ≡ is_value value
    alike None = refl
    alike (Some units) = leb-saturated units unit (omega arith)

    same : (value : Option ℕ) → is_value value ≡ true → option_map saturated value ≡ value
    same None is = refl
    same (Some units) is = ap (λ n. Some n) (saturated-within units unit (omega arith) is)

pub line-read : (read entry : Option RewardEntry) → read ≡ option_map (saturated_entry (option_map saturated)) entry
    → judged_by (is_in_range_by is_value) read ≡ judged_by (is_in_range_by is_value) entry
line-read = judged-read (Option ℕ) is_value (option_map saturated) values_alike

bounds-kept : (lower upper : Option ℕ)
    → are_bounds (option_map saturated lower) (option_map saturated upper) ≡ are_bounds lower upper
bounds-kept None None = refl
bounds-kept None (Some upper) = refl
bounds-kept (Some lower) None = refl
bounds-kept (Some lower) (Some upper) = refl

with_bounds-kept : (entry : Option RewardEntry)
    → with_bounds (option_map (saturated_entry (option_map saturated)) entry)
    ≡ option_map (saturated_entry (option_map saturated)) (with_bounds entry)
with_bounds-kept None = refl
with_bounds-kept (Some entry) = by (are_bounds entry.lower entry.upper) refl
  where
    by : (v : Bool) → are_bounds entry.lower entry.upper ≡ v
        → with_bounds (Some (saturated_entry (option_map saturated) entry))
        ≡ option_map (saturated_entry (option_map saturated)) (with_bounds (Some entry))
    by true together = rw (bounds-kept entry.lower entry.upper, together) refl
    by false apart = rw (bounds-kept entry.lower entry.upper, apart) refl

pub bounds-read : (read entry : Option RewardEntry) → read ≡ option_map (saturated_entry (option_map saturated)) entry
    → with_bounds read ≡ option_map (saturated_entry (option_map saturated)) (with_bounds entry)
bounds-read read entry same = ap with_bounds same ∙ with_bounds-kept entry

-- 2. What is said of a line is what the line is.

values_tested : IsTested (Option ℕ) is_value IsValue
values_tested = record { holds = holds; tested = tested }
  where
    holds : (value : Option ℕ) → is_value value ≡ true → IsValue value
    holds None is = tt
    holds (Some units) is = leb-true units unit is

    tested : (value : Option ℕ) → IsValue value → is_value value ≡ true
    tested None is = refl
    tested (Some units) is = le-leb units unit is

pub in_range-said : (entry : RewardEntry) → IsRewardEntry entry
    → judged_by (is_in_range_by is_value) (Some entry) ≡ Ok entry
in_range-said = judged_by-in_range (Option ℕ) is_value IsValue values_tested

bounds-hold : (lower upper : Option ℕ) → are_bounds lower upper ≡ true → AreBounds lower upper
bounds-hold None None is = refl
bounds-hold None (Some upper) is = cc
bounds-hold (Some lower) upper is = tt

bounds-tested : (lower upper : Option ℕ) → AreBounds lower upper → are_bounds lower upper ≡ true
bounds-tested None None is = refl
bounds-tested None (Some upper) is = cc
bounds-tested (Some lower) None is = refl
bounds-tested (Some lower) (Some upper) is = refl

with_bounds-one : (spelled : Option RewardEntry) (entry : RewardEntry) → with_bounds spelled ≡ Some entry
    → (spelled ≡ Some entry) × AreBounds entry.lower entry.upper
with_bounds-one None entry said = cc
with_bounds-one (Some read) entry said = by (are_bounds read.lower read.upper) refl said
  where
    by : (v : Bool) → are_bounds read.lower read.upper ≡ v → cond v (Some read) None ≡ Some entry
        → (Some read ≡ Some entry) × AreBounds entry.lower entry.upper
    by false apart same = cc
    by true together same =
        let is : read ≡ entry = cc in (
          ap (λ e. Some e) is,
          subst (λ (e : RewardEntry). AreBounds e.lower e.upper) is (bounds-hold read.lower read.upper together),
        )

pub with_bounds-told : (entry : RewardEntry) → AreBounds entry.lower entry.upper
    → with_bounds (Some entry) ≡ Some entry
with_bounds-told entry are = ap (λ v. cond v (Some entry) None) (bounds-tested entry.lower entry.upper are)

line_said-one : (places s : ℕ) (line : List ℕ) (entry : RewardEntry) → reward_line_said places s line ≡ Ok entry
    → IsRewardLine places s line entry
line_said-one places s line entry said =
    let judged = judged_by-one (Option ℕ) is_value IsValue values_tested
    (reward_entry_in places s (fields_of line)) entry said in
    let spelled = with_bounds-one (entry_in_by (value_in places) s (fields_of line)) entry judged.0 in
    (spelled.0, spelled.1, judged.1)

pub line_said-told : (places s : ℕ) (line : List ℕ) (entry : RewardEntry) → IsRewardLine places s line entry
    → reward_line_said places s line ≡ Ok entry
line_said-told places s line entry is =
    ap (λ e. judged_by (is_in_range_by is_value) (with_bounds e)) is.0
    ∙ ap (λ e. judged_by (is_in_range_by is_value) e) (with_bounds-told entry is.1)
    ∙ in_range-said entry is.2

pub lines_said : (places : ℕ) → AreSaid RewardEntry (reward_line_said places) (IsRewardLine places)
lines_said places = record {
  one = line_said-one places;
  told = line_said-told places;
  some = λ s line entry is. not_blank_by (Option ℕ) (value_in places) s line entry is.0;
}
