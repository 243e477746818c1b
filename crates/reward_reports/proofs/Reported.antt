-- What is printed of a certificate that was accepted is right.
use Rattle.std.proofs.Common.{◌≡◌, ◌<◌, ◌≤◌, ℕ, Bool, true, false, List, length, Option, Some, None, sym, subst}
use Rattle.std.proofs.Common.{Result, Ok, Err, arith}
use Rattle.std.specs.Prelude.{All, IfOk, slice_index, if◌then◌else◌}
use Rattle.std.proofs.lemmas.List.Elements.{All-get_or, All-map, All-weaker}
use Rattle.game_model.specs.Limits.{unit}
use Rattle.game_model.specs.Query.{Query, IsQuery, states}
use Rattle.fractions.specs.Fraction.{Fraction}
use Rattle.expected_rewards.specs.Tables.{is_finite}
use Rattle.reward_formula.specs.declared.formula.RewardBound.{RewardBound}
use Rattle.reward_check.specs.declared.tables.RewardTables.{RewardTables}
use Rattle.reward_check.specs.Certificates.{Certificate, said}
use Rattle.reward_units.specs.declared.rounded.Rounding.TheVariants.{Down, Up}
use Rattle.reward_units.specs.Exact.{ExactRewards, AreRounded, HaveValues}
use Rattle.reward_units.specs.Rounded.{paid_units, ArePaidUnits}
use Rattle.reward_values.specs.Values.{IsValue}
use Rattle.verdicts.specs.declared.report.How.{How}
use Rattle.verdicts.specs.declared.verdict.Verdict.TheVariants.{Undecided}
use Rattle.verdicts.specs.Report.{HasCount}
use Rattle.reward_verdicts.specs.Report.{reward_report}
use Rattle.reward_verdicts.specs.Truth.{IsBetween, IsRight, IsUpTo}
use Rattle.reward_verdicts.specs.Verdict.{reward_verdict_of}
use Rattle.output.specs.declared.status.Status.{Status}
use Rattle.reward_reports.specs.Printed.{lower_of, upper_of, reward_line_of, reward_lines_of, reward_status_of}
use Rattle.reward_reports.specs.Reports.{IsLeftOpen, IsRightLine, IsRewardCertificate, IsRewardReport}

-- 1. The rewards of the tables are rounded, and their values are within the limit.

pub rounded : (t : RewardTables) (exact : ExactRewards) (places : ℕ)
    → ArePaidUnits t.question.now.game (paid_units Down exact places) t.low.now
    → ArePaidUnits t.question.now.game (paid_units Up exact places) t.high.now → AreRounded (said t) exact places
rounded t exact places low high = record { low = low.each; high = high.each }

entry-small : (table : List ℕ) (n s : ℕ) → length table ≡ n → All (λ v. v ≤ unit) table → s < n
    → slice_index table s ≤ unit
entry-small table n s many small inside =
    All-get_or (λ v. v ≤ unit) table s 0 (subst (λ m. s < m) (sym many) inside) small

pub have-values : (t : RewardTables) → HaveValues (said t)
have-values t = record {
  lower = λ s inside. entry-small t.lower.now (states t.question.now) s t.many_lower t.lower_units inside;
  upper = λ s inside. entry-small t.upper.now (states t.question.now) s t.many_upper t.upper_units inside;
}

-- 2. A line is right.

printed-fits : (is_number : Bool) (entry : ℕ) → entry ≤ unit → IsValue (if is_number then Some entry else None)
printed-fits true entry small = small
printed-fits false entry small = tt

-- these are the laws of verdicts
abbrev pub AreVerdictsRight : Type 0
AreVerdictsRight = (bound : RewardBound) (places : ℕ) (lower upper : Option ℕ) (value : Option Fraction)
    → IsBetween places lower upper value → IsRight bound value (reward_verdict_of bound places lower upper)

abbrev pub AreLeftOpen : Type 0
AreLeftOpen = (bound : RewardBound) (places : ℕ) (lower upper : Option ℕ)
    → reward_verdict_of bound places lower upper ≡ Undecided → IsLeftOpen bound places lower upper

-- the lower value of each state is at most its upper value
abbrev pub AreInOrder : Certificate → Type 0
AreInOrder c = (s : ℕ) → s < states c.question → IsUpTo (lower_of c s) (upper_of c s)

line-right : (q : Query) → IsQuery q → AreVerdictsRight → AreLeftOpen → (bound : RewardBound) (how : How)
    → HasCount how → (places : ℕ) (c : Certificate) → HaveValues c → AreInOrder c → c.question ≡ q → (s : ℕ)
    → s < states q → IsRightLine bound places (reward_line_of bound how places c s)
line-right q posed right open_ bound how counted places c values ordered same s inside =
    let within : s < states c.question = subst (λ (p : Query). s < states p) (sym same) inside in
    record {
      fits = record {
        state = omega (arith, inside, posed.game.few);
        count = counted;
        lower = printed-fits (is_finite c.finite s) (c.lower s) (values.lower s within);
        upper = printed-fits (is_finite c.bounded s) (c.upper s) (values.upper s within);
      };
      ordered = ordered s within;
      right = λ value between. right bound places _ _ value between;
      left_open = λ is. open_ bound places _ _ is;
    }

-- 3. So the report is.

pub reported : {X E : Type 0} (text : X → List ℕ) (ends : X → Status) (q : Query) (exact : ExactRewards)
    (initial : List ℕ) (bound : RewardBound) (how : How) (places : ℕ) (c : Certificate)
    → IsRewardCertificate q exact places c → AreInOrder c → All (λ s. s < states q) initial → HasCount how
    → AreVerdictsRight → AreLeftOpen → (result : Result X E)
    → IfOk result (λ answer. text answer ≡ reward_report places (reward_lines_of bound how places c initial))
    → IfOk result (λ answer. ends answer ≡ reward_status_of (reward_lines_of bound how places c initial))
    → IfOk result (λ answer. IsRewardReport q exact initial bound how places c (text answer) (ends answer))
reported text ends q exact initial bound how places c is ordered inside counted right open_ (Ok answer) written ended =
    record {
      certificate = is;
      inside = inside;
      lines = All-map (IsRightLine bound places) (reward_line_of bound how places c) initial
          (All-weaker (λ s. s < states q) (λ s. IsRightLine bound places (reward_line_of bound how places c s))
          (line-right q is.posed right open_ bound how counted places c is.values ordered is.same)
          initial inside);
      written = written;
      ends = ended;
    }
reported text ends q exact initial bound how places c is ordered inside counted right open_ (Err e) written ended = tt
