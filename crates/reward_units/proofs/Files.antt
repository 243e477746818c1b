-- The rewards of a file have a common denominator, since each entry of their table is an amount.
use Rattle.std.proofs.Common.{ℕ, ◌≤◌, List, Option, Some, None, length, arith, subst, sym, inl, inr}
use Rattle.std.specs.Prelude.{slice_index_or, unwrap_or}
use Rattle.std.proofs.lemmas.Bool.{cases_lt}
use Rattle.std.proofs.lemmas.List.{get_or_past}
use Rattle.std.proofs.lemmas.List.Elements.{All-get_or}
use Rattle.game_model.specs.Query.{Query}
use Rattle.fractions.specs.Fraction.{Fraction}
use Rattle.expected_rewards.specs.Rewards.{Rewards}
use Rattle.rewards_reader.specs.Amounts.{IsAmount, AreAmounts, no_reward}
use Rattle.rewards_reader.specs.Rewards.{place_of}
use Rattle.reward_units.specs.Exact.{ArePaid}
use Rattle.reward_units.specs.Rounded.{exact_in}
use Rattle.reward_units.proofs.Denominator.{common-denominator}

-- an entry that is missing is 0, which has the denominator 1
entry-some : (table : List (Option Fraction)) (place : ℕ) → AreAmounts table
    → 1 ≤ (unwrap_or (slice_index_or table place None) no_reward).den
entry-some table place are = elim (cases_lt place (length table)) [
  | inl inside ↦
      let amount : IsAmount (unwrap_or (slice_index_or table place None) no_reward) =
      All-get_or (λ (entry : Option Fraction). IsAmount (unwrap_or entry no_reward)) table place None inside are.each in
      amount.positive
  | inr past ↦
      let P : Option Fraction → Type 0 = λ entry. 1 ≤ (unwrap_or entry no_reward).den in
      subst P (sym (get_or_past table place None past)) (omega arith)
]

pub file-denominator : (q : Query) (table : List (Option Fraction)) → AreAmounts table
    → (den : ℕ) × (whole : Rewards) × ArePaid q (exact_in q.game table) den whole
file-denominator q table are = common-denominator q (exact_in q.game table) (record {
  of_state = λ s inside. entry-some table (place_of q.game s None) are;
  of_choice = λ s c inside within. entry-some table (place_of q.game s (Some c)) are;
})
