-- This module defines the entries of a certificate, one for each state.
use Rattle.std.specs.Prelude.{◌≡◌, ℕ, ◌≤◌, List, length, map, slice_index, slice_index_or, Option, Some, None}
use Rattle.std.specs.List.{range_with_len}
use Rattle.game_model.specs.Limits.{unit}
use Rattle.plan_text.specs.declared.plan.Plan.{Plan}

-- An entry has the bounds of a state, which are values, the choices of both sides, if they are given, and the rank.
pub record EntryOf (Value : Type 0) : Type 0 where
  pub lower : Value
  pub choice : Option ℕ
  pub rank : ℕ
  pub upper : Value
  pub reply : Option ℕ

-- The values of a certificate of probabilities are counts of units.
abbrev pub Entry : Type 0
Entry = EntryOf ℕ

-- No choice has a greater number: a word keeps it in 14 bits.
abbrev pub greatest_choice : ℕ
greatest_choice = 16383

-- No rank is greater: it is the greatest number of 32 bits.
abbrev pub greatest_rank : ℕ
greatest_rank = 4294967295

-- The number of a choice, if one is given, is at most the greatest.
abbrev pub IsSmall : Option ℕ → Type 0
IsSmall None = Unit {0}
IsSmall (Some choice) = choice ≤ greatest_choice

-- The bounds are values within their limit, and so are the choices and the rank.
pub record IsInRangeOf (Value : Type 0) (IsValue : Value → Type 0) (entry : EntryOf Value) : Type 0 where
  pub lower : IsValue entry.lower
  pub choice : IsSmall entry.choice
  pub rank : entry.rank ≤ greatest_rank
  pub upper : IsValue entry.upper
  pub reply : IsSmall entry.reply

-- A value is at most the unit.
abbrev pub IsInRange : Entry → Type 0
IsInRange = IsInRangeOf ℕ (λ value. value ≤ unit)

-- The five lists of a plan have this length.
pub record HasStates (plan : Plan) (states : ℕ) : Type 0 where
  pub lower : length plan.lower.items ≡ states
  pub choices : length plan.choices.items ≡ states
  pub ranks : length plan.ranks.items ≡ states
  pub upper : length plan.upper.items ≡ states
  pub replies : length plan.replies.items ≡ states

-- The entry is what the plan says of a state.
abbrev pub entry_at : Plan → ℕ → Entry
entry_at plan s = record {
  lower = slice_index plan.lower.items s;
  choice = slice_index_or plan.choices.items s None;
  rank = slice_index plan.ranks.items s;
  upper = slice_index plan.upper.items s;
  reply = slice_index_or plan.replies.items s None;
}

-- The plan has an entry for each state.
abbrev pub entries_of : Plan → List Entry
entries_of plan = map (entry_at plan) (range_with_len 0 (length plan.lower.items))
