-- This module defines the text of a report on expected rewards, line by line.
use Rattle.std.specs.Prelude.{ℕ, List, [], ◌∷◌, ◌++◌, ◌<◌, ◌^◌, Option, codes, decimal}
use Rattle.reward_values.specs.Values.{IsValue, value_text}
use Rattle.verdicts.specs.Report.{HasCount, how_text, ending}
use Rattle.reward_verdicts.specs.declared.report.RewardLine.{RewardLine}

-- The numbers of a line fit their types, and its bounds are values.
pub record IsRewardLine (line : RewardLine) : Type 0 where
  pub state : line.state < 2 ^ 32
  pub count : HasCount line.how
  pub lower : IsValue line.lower
  pub upper : IsValue line.upper

-- The text is a label and a value.
abbrev pub labelled_value : ℕ → List ℕ → Option ℕ → List ℕ
labelled_value places label value = label ++ value_text places value

-- The line of a state looks like `state 0 lower 3.66 upper infinite solved Bracket`.
abbrev pub reward_line_text : ℕ → RewardLine → List ℕ
reward_line_text places line = (codes "state " ++ decimal line.state)
    ++ (labelled_value places (codes " lower ") line.lower ++ (labelled_value places (codes " upper ") line.upper
    ++ (how_text line.how ++ ending line.verdict)))

-- The report has the lines in their order.
abbrev pub reward_report : ℕ → List RewardLine → List ℕ
reward_report places [] = []
reward_report places (line ∷ lines) = reward_line_text places line ++ reward_report places lines
