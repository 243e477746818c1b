-- This module defines the text that is written for a certificate of rewards.
use Rattle.std.specs.Prelude.{ℕ, List, ◌++◌, length, codes, decimal}
use Rattle.plan_text.specs.Written.{entry_text_by, entry_lines_by}
use Rattle.reward_values.specs.Values.{value_text}
use Rattle.reward_text.specs.Entries.{RewardEntry}

-- The line of a state looks like `0 3.66666666666666 - 3 3.66666666666667 0`.
abbrev pub reward_entry_text : ℕ → ℕ → RewardEntry → List ℕ
reward_entry_text places = entry_text_by (value_text places)

-- The first line is `rewards 1 D N` for D places and N states.
abbrev pub reward_heading_text : ℕ → ℕ → List ℕ
reward_heading_text places states =
    codes "rewards 1 " ++ (decimal places ++ (codes " " ++ (decimal states ++ codes "\n")))

-- The text has its first line, and a line for each of the states.
abbrev pub reward_certificate_text : ℕ → List RewardEntry → List ℕ
reward_certificate_text places entries =
    reward_heading_text places (length entries) ++ entry_lines_by (reward_entry_text places) 0 entries
