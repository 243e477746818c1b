-- This module defines the entries of a certificate of rewards, one for each state.
use Rattle.std.specs.Prelude.{◌≡◌, ◌≤◌, ◌<◌, ℕ, Bool, false, List, length, map, slice_index, slice_index_or, All}
use Rattle.std.specs.Prelude.{Option, Some, None, if◌then◌else◌}
use Rattle.std.specs.List.{range_with_len}
use Rattle.game_model.specs.Limits.{unit}
use Rattle.plan_text.specs.Entries.{EntryOf, IsInRangeOf}
use Rattle.reward_values.specs.Values.{IsValue}
use Rattle.reward_text.specs.declared.plan.RewardPlan.{RewardPlan}

-- The values of an entry are counts of units, or infinite.
abbrev pub RewardEntry : Type 0
RewardEntry = EntryOf (Option ℕ)

-- The numbers of an entry are within their limits.
abbrev pub IsRewardEntry : RewardEntry → Type 0
IsRewardEntry = IsInRangeOf (Option ℕ) IsValue

-- A lower value that is infinite has no number above it.
abbrev pub AreBounds : Option ℕ → Option ℕ → Type 0
AreBounds None upper = upper ≡ None
AreBounds (Some lower) upper = Unit {0}

-- A certificate of rewards has places and an entry for each state.
pub record RewardCertificate : Type 0 where
  pub places : ℕ
  pub entries : List RewardEntry

-- The seven lists of a plan have this length.
pub record HasRewardStates (plan : RewardPlan) (states : ℕ) : Type 0 where
  pub finite : length plan.finite.items ≡ states
  pub lower : length plan.lower.items ≡ states
  pub choices : length plan.choices.items ≡ states
  pub ranks : length plan.ranks.items ≡ states
  pub bounded : length plan.bounded.items ≡ states
  pub upper : length plan.upper.items ≡ states
  pub replies : length plan.replies.items ≡ states

-- Where a value is no number, its entry is 0.
abbrev pub AreZeroElsewhere : List Bool → List ℕ → Type 0
AreZeroElsewhere numbers units = (s : ℕ) → s < length units → slice_index_or numbers s false ≡ false
    → slice_index units s ≡ 0

-- No entry of the lists of values is above the unit, and those that are no number are 0.
pub record HasUnits (plan : RewardPlan) : Type 0 where
  pub lower : All (λ v. v ≤ unit) plan.lower.items
  pub upper : All (λ v. v ≤ unit) plan.upper.items
  pub no_lower : AreZeroElsewhere plan.finite.items plan.lower.items
  pub no_upper : AreZeroElsewhere plan.bounded.items plan.upper.items

-- The value of a state is a number where this is marked, and infinite elsewhere.
abbrev pub value_at : List Bool → List ℕ → ℕ → Option ℕ
value_at numbers units s = if slice_index_or numbers s false then Some (slice_index units s) else None

-- The entry is what the plan says of a state.
abbrev pub reward_entry_at : RewardPlan → ℕ → RewardEntry
reward_entry_at plan s = record {
  lower = value_at plan.finite.items plan.lower.items s;
  choice = slice_index_or plan.choices.items s None;
  rank = slice_index plan.ranks.items s;
  upper = value_at plan.bounded.items plan.upper.items s;
  reply = slice_index_or plan.replies.items s None;
}

-- The plan has an entry for each state.
abbrev pub reward_entries_of : RewardPlan → List RewardEntry
reward_entries_of plan = map (reward_entry_at plan) (range_with_len 0 (length plan.lower.items))

-- The certificate is what the plan says.
abbrev pub certificate_of : RewardPlan → RewardCertificate
certificate_of plan = record { places = plan.places; entries = reward_entries_of plan }
