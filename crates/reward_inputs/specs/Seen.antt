-- This module says what contracts see of what was loaded and posed.
use Rattle.std.specs.Prelude.{List}
use Rattle.formula_sets.specs.Posing.{Model}
use Rattle.rewards_reader.specs.declared.line.RewardLine.{RewardLine}
use Rattle.reward_formula.specs.Formula.{any_of, reward_tree_of}
use Rattle.reward_inputs.specs.declared.load.LoadedModel.{LoadedModel}
use Rattle.reward_inputs.specs.declared.loaded.LoadedRewards.{LoadedRewards}
use Rattle.reward_inputs.specs.declared.problem.RewardProblem.{RewardProblem}
use Rattle.reward_inputs.specs.Posed.{RewardReading, RewardQuestion}

-- A contract sees a game with its labels and owners.
abbrev pub model_of : LoadedModel → Model
model_of it = record { game = it.game; labels = it.labels; owners = it.owners }

-- This is the game with its labels and owners in what was loaded.
abbrev pub model_in : LoadedRewards → Model
model_in it = record { game = it.game; labels = it.labels; owners = it.owners }

-- A contract sees what was loaded as a reading, whose rewards these lines give.
abbrev pub reading_of : LoadedRewards → List RewardLine → RewardReading
reading_of it lines = record {
  model = model_in it;
  lines = lines;
  formula = any_of it.formula;
}

-- A contract sees a posed problem as a question, whose rewards these lines give.
abbrev pub question_of : List RewardLine → RewardProblem → RewardQuestion
question_of lines it = record {
  posing = record { question = it.question; initial = it.initial.items };
  lines = lines;
  formula = reward_tree_of it.formula.now;
}
