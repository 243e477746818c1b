-- A certificate of rewards has these entries. It is sound if they bound what the game is worth.
use Rattle.std.specs.Prelude.{ℕ, ◌+◌, Bool, List, Option, slice_index}
use Rattle.game_model.specs.Game.{Distribution, choices_below}
use Rattle.game_model.specs.Query.{Query}
use Rattle.expected_rewards.specs.Rewards.{Rewards}
use Rattle.expected_rewards.specs.Promises.{AreRewardBounds}
use Rattle.reward_check.specs.declared.tables.RewardTables.{RewardTables}

-- The list has the reward of each choice, state by state. A choice after its end has the reward 0.
abbrev pub flat_rewards : List (List Distribution) → List ℕ → Rewards
flat_rewards game flat s c = slice_index flat (choices_below game s + c)

-- A certificate has a question, and its rewards rounded down and rounded up. For each state it says whether the lower
-- value is a number (else it is infinite), and whether the upper value is a number (else there is none). Each state
-- also has both values, the choice of the maximiser, the reply of the minimiser, and the rank.
pub record Certificate : Type 0 where
  pub question : Query
  pub low : Rewards
  pub high : Rewards
  pub finite : List Bool
  pub bounded : List Bool
  pub lower : ℕ → ℕ
  pub upper : ℕ → ℕ
  pub choices : List (Option ℕ)
  pub replies : List (Option ℕ)
  pub ranks : List ℕ

-- The lists in memory say this certificate.
abbrev pub said : RewardTables → Certificate
said t = record {
  question = t.question.now;
  low = flat_rewards t.question.now.game t.low.now;
  high = flat_rewards t.question.now.game t.high.now;
  finite = t.finite.now;
  bounded = t.bounded.now;
  lower = slice_index t.lower.now;
  upper = slice_index t.upper.now;
  choices = t.choices.now;
  replies = t.replies.now;
  ranks = t.ranks.now;
}

-- The values bound what the game is worth, by the replies and the choices.
abbrev pub IsSound : Certificate → Type 0
IsSound c = AreRewardBounds c.question c.low c.high c.finite c.bounded c.choices c.replies c.lower c.upper
