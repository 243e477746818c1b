-- These definitions say what is printed of a certificate of expected rewards: a line for each initial state, and the
-- status of the lines.
use Rattle.std.specs.Prelude.{ℕ, Bool, List, map, Option, Some, None, if◌then◌else◌}
use Rattle.std.specs.List.{list_any}
use Rattle.expected_rewards.specs.Tables.{is_finite}
use Rattle.reward_formula.specs.declared.formula.RewardBound.{RewardBound}
use Rattle.reward_check.specs.Certificates.{Certificate}
use Rattle.verdicts.specs.declared.report.How.{How}
use Rattle.verdicts.specs.Verdict.{is_no, is_undecided}
use Rattle.reward_verdicts.specs.declared.report.RewardLine.{RewardLine}
use Rattle.reward_verdicts.specs.Verdict.{reward_verdict_of}
use Rattle.output.specs.declared.status.Status.{Status}
use Rattle.output.specs.declared.status.Status.TheVariants.{Fine, SomeFalse, SomeUndecided}

-- This is the entry of a state in a table, or none where the marks say that the value is no number.
abbrev pub value_at : List Bool → (ℕ → ℕ) → ℕ → Option ℕ
value_at marks table s = if is_finite marks s then Some (table s) else None

-- This is the lower value of a state. One that is no number is infinite.
abbrev pub lower_of : Certificate → ℕ → Option ℕ
lower_of c s = value_at c.finite c.lower s

-- This is the upper value of a state. If it is no number, none is claimed.
abbrev pub upper_of : Certificate → ℕ → Option ℕ
upper_of c s = value_at c.bounded c.upper s

-- The line of a state has its values, where they come from, and what they say of the bound of the formula. A coin is
-- tossed until it shows heads, and a toss is paid 1. The tables of a solver give the first of these lines in units of
-- no places. The second one is the line of a state from which the maximiser can miss the goals for ever.
--
--     state 0 lower 2 upper 2 solved Bracket
--     state 0 lower infinite upper infinite solved Bracket
abbrev pub reward_line_of : RewardBound → How → ℕ → Certificate → ℕ → RewardLine
reward_line_of bound how places c s = record {
  state = s;
  lower = lower_of c s;
  upper = upper_of c s;
  how = how;
  verdict = reward_verdict_of bound places (lower_of c s) (upper_of c s);
}

-- There is one line for each of some states, in their order.
abbrev pub reward_lines_of : RewardBound → How → ℕ → Certificate → List ℕ → List RewardLine
reward_lines_of bound how places c initial = map (reward_line_of bound how places c) initial

-- The status is `SomeFalse` if some line is False, else `SomeUndecided` if some line is Undecided, and else `Fine`.
abbrev pub reward_status_of : List RewardLine → Status
reward_status_of lines = if list_any (λ line. is_no line.verdict) lines then SomeFalse else
    (if list_any (λ line. is_undecided line.verdict) lines then SomeUndecided else Fine)
