-- This module defines when the lower values of candidates count.
use Rattle.std.specs.Prelude.{ℕ, ◌⊎◌, Bool, List, [], Some, map, slice_index}
use Rattle.game_model.specs.Query.{Query}
use Rattle.game_model.specs.Tables.{IsTable}
use Rattle.reward_check.specs.declared.parts.Part.TheVariants.{Lower}
use Rattle.reward_check.specs.Certificates.{Certificate, flat_rewards}
use Rattle.reward_check.specs.Parts.{IsPassed}
use Rattle.reward_solver.specs.declared.search.RewardCandidates.{RewardCandidates}
use Rattle.solved_rewards.specs.Values.{value_of}

-- This certificate has the choices of candidates and these lower values. It claims no upper values.
abbrev pub lower_side : Query → List Bool → RewardCandidates → List ℕ → Certificate
lower_side q finite candidates table = record {
  question = q;
  low = flat_rewards q.game candidates.low.items;
  high = flat_rewards q.game candidates.high.items;
  finite = finite;
  bounded = [];
  lower = slice_index table;
  upper = slice_index [];
  choices = map Some candidates.choices.items;
  replies = [];
  ranks = [];
}

-- The choices of the candidates pay their lower values, as a check tests it.
abbrev pub ArePaid : Query → List Bool → RewardCandidates → Type 0
ArePaid q finite candidates = (table : List ℕ) → IsTable q (value_of q finite candidates.lower.items) table
    → IsPassed Lower (lower_side q finite candidates table)

-- Each lower value is that of the candidates, or each is 0 and the choices of the candidates do not pay their values.
abbrev pub IsLowerOf : Query → List Bool → RewardCandidates → List ℕ → Type 0
IsLowerOf q finite candidates lower =
    IsTable q (value_of q finite candidates.lower.items) lower
    ⊎ (IsTable q (value_of q finite []) lower × ¬ ArePaid q finite candidates)
