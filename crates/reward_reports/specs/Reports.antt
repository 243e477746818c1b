-- These definitions say what a report on expected rewards promises.
use Rattle.std.specs.Prelude.{◌≡◌, ℕ, ◌<◌, ◌≤◌, List, Option, All}
use Rattle.game_model.specs.Query.{Query, IsQuery, states}
use Rattle.fractions.specs.Fraction.{Fraction}
use Rattle.expected_rewards.specs.Rewards.{Rewards}
use Rattle.reward_formula.specs.declared.formula.RewardBound.{RewardBound}
use Rattle.reward_check.specs.Certificates.{Certificate, IsSound}
use Rattle.reward_check.specs.Parts.{IsAccepted}
use Rattle.reward_units.specs.Units.{most_places}
use Rattle.reward_units.specs.Exact.{ExactRewards, ArePaid, AreRounded, HaveValues, exact_of}
use Rattle.verdicts.specs.declared.report.How.{How}
use Rattle.verdicts.specs.declared.verdict.Verdict.TheVariants.{Undecided}
use Rattle.reward_verdicts.specs.declared.report.RewardLine.{RewardLine}
use Rattle.reward_verdicts.specs.Report.{IsRewardLine, reward_report}
use Rattle.reward_verdicts.specs.Truth.{IsBetween, IsMetBy, IsRight, IsUpTo}
use Rattle.output.specs.declared.status.Status.{Status}
use Rattle.reward_reports.specs.Printed.{reward_lines_of, reward_status_of}

-- The values of a certificate bound what the exact rewards are worth. Against its replies every strategy of the
-- maximiser is expected to collect at most the upper value, and a goal is reached almost surely. Against its choices
-- each strategy of the minimiser pays at least the lower value if it reaches a goal almost surely, and from a state of
-- infinite lower value none does so. `AreRewardBounds` says this with its multiples and limits. The exact rewards
-- have a common denominator, and it holds over each one.
pub record IsSoundOver (exact : ExactRewards) (places : ℕ) (c : Certificate) : Type 0 where
  pub exists : (den : ℕ) × (whole : Rewards) × ArePaid c.question exact den whole
  pub each : (den : ℕ) (whole : Rewards) → ArePaid c.question exact den whole → IsSound (exact_of c places den whole)

-- A certificate for a question is accepted over exact rewards that are rounded both ways, in units of so many places,
-- and so it is sound over the exact ones.
pub record IsRewardCertificate (q : Query) (exact : ExactRewards) (places : ℕ) (c : Certificate) : Type 0 where
  pub posed : IsQuery q
  pub same : c.question ≡ q
  pub fine : places ≤ most_places
  pub values : HaveValues c
  pub rounded : AreRounded c exact places
  pub accepted : IsAccepted c
  pub sound : IsSoundOver exact places c

-- Two bounds leave a threshold open: some value between them meets it, and another one does not.
pub record IsLeftOpen (bound : RewardBound) (places : ℕ) (lower upper : Option ℕ) : Type 0 where
  pub one : Option Fraction
  pub one_between : IsBetween places lower upper one
  pub met : IsMetBy bound one
  pub other : Option Fraction
  pub other_between : IsBetween places lower upper other
  pub missed : ¬ IsMetBy bound other

-- A line is right. Its lower bound is at most its upper one, and if it is infinite, no upper one is claimed. Whatever
-- value lies between them, True is true of the value, and False is false of it. The line is Undecided only if its
-- bounds leave the threshold open.
pub record IsRightLine (bound : RewardBound) (places : ℕ) (line : RewardLine) : Type 0 where
  pub fits : IsRewardLine line
  pub ordered : IsUpTo line.lower line.upper
  pub right : (value : Option Fraction) → IsBetween places line.lower line.upper value
      → IsRight bound value line.verdict
  pub left_open : line.verdict ≡ Undecided → IsLeftOpen bound places line.lower line.upper

-- The text and the status say of the initial states what a certificate says, and this is right. The certificate is
-- accepted, whoever made it.
pub record IsRewardReport (q : Query) (exact : ExactRewards) (initial : List ℕ) (bound : RewardBound) (how : How)
    (places : ℕ) (c : Certificate) (text : List ℕ) (status : Status) : Type 0 where
  pub certificate : IsRewardCertificate q exact places c
  pub inside : All (λ s. s < states q) initial
  pub lines : All (IsRightLine bound places) (reward_lines_of bound how places c initial)
  pub written : text ≡ reward_report places (reward_lines_of bound how places c initial)
  pub ends : status ≡ reward_status_of (reward_lines_of bound how places c initial)
