-- This module says what a certificate of rewards that was made has in its lists.
use Rattle.std.specs.Prelude.{◌≡◌, ℕ, ◌<◌, ◌≤◌, length, slice_index, slice_index_or, All, None, IsSome}
use Rattle.game_model.specs.Limits.{unit}
use Rattle.game_model.specs.Query.{Query, states}
use Rattle.game_model.specs.Tables.{IsTable}
use Rattle.reward_check.specs.Certificates.{Certificate, flat_rewards}
use Rattle.reward_solver.specs.declared.search.RewardCandidates.{RewardCandidates}
use Rattle.solved_rewards.specs.declared.away.AwayPlan.{AwayPlan}
use Rattle.solved_rewards.specs.declared.solved.SolvedRewards.{SolvedRewards}
use Rattle.solved_rewards.specs.Paid.{IsLowerOf}
use Rattle.solved_rewards.specs.Values.{value_of, NeedsChoice, NeedsReply}

-- The lists say this certificate of a question.
abbrev pub certificate_of : Query → SolvedRewards → Certificate
certificate_of q solved = record {
  question = q;
  low = flat_rewards q.game solved.low.items;
  high = flat_rewards q.game solved.high.items;
  finite = solved.finite.items;
  bounded = solved.bounded.items;
  lower = slice_index solved.lower.items;
  upper = slice_index solved.upper.items;
  choices = solved.choices.items;
  replies = solved.replies.items;
  ranks = solved.ranks.items;
}

-- The lists have an entry for each of this many states, and no value is above the unit.
pub record HasStates (n : ℕ) (solved : SolvedRewards) : Type 0 where
  pub finite : length solved.finite.items ≡ n
  pub bounded : length solved.bounded.items ≡ n
  pub lower : length solved.lower.items ≡ n
  pub upper : length solved.upper.items ≡ n
  pub choices : length solved.choices.items ≡ n
  pub replies : length solved.replies.items ≡ n
  pub ranks : length solved.ranks.items ≡ n
  pub lower_units : All (λ v. v ≤ unit) solved.lower.items
  pub upper_units : All (λ v. v ≤ unit) solved.upper.items

-- What was given stays: the finite states, and the rewards in the same units.
pub record HasGiven (away : AwayPlan) (candidates : RewardCandidates) (solved : SolvedRewards) : Type 0 where
  pub finite : solved.finite.items ≡ away.finite.now
  pub places : solved.places ≡ candidates.places
  pub low : solved.low.items ≡ candidates.low.items
  pub high : solved.high.items ≡ candidates.high.items

-- The lower values are those of the candidates unless their choices do not pay them. Each upper value that is a number
-- is that of the candidates, or 0 at a goal.
pub record HasValuesOf (q : Query) (candidates : RewardCandidates) (solved : SolvedRewards) : Type 0 where
  pub lower : IsLowerOf q solved.finite.items candidates solved.lower.items
  pub upper : IsTable q (value_of q solved.bounded.items candidates.upper.items) solved.upper.items

-- Only the states that need a choice or a reply have one.
pub record HasNoMore (q : Query) (solved : SolvedRewards) : Type 0 where
  pub choices : (s : ℕ) → s < states q → IsSome (slice_index_or solved.choices.items s None)
      → NeedsChoice q solved.finite.items solved.lower.items s
  pub replies : (s : ℕ) → s < states q → IsSome (slice_index_or solved.replies.items s None)
      → NeedsReply q solved.bounded.items s
