-- These definitions say what a report on expected rewards says of a question, and why a certificate is refused for it.
use Rattle.std.specs.Prelude.{◌≡◌, ℕ, Bool, true, false, List, [], ◌++◌, Option, All, codes}
use Rattle.fractions.specs.Fraction.{Fraction}
use Rattle.game_model.specs.Query.{Query, states}
use Rattle.almost_sure.specs.Values.{AreAlmostSure}
use Rattle.expected_rewards.specs.Turned.{turned}
use Rattle.rewards_reader.specs.Rewards.{HasRewards}
use Rattle.verdicts.specs.declared.report.How.{How}
use Rattle.verdicts.specs.declared.report.How.TheVariants.{Audited, Solved}
use Rattle.output.specs.declared.refusal.Text.TheVariants.{Cert}
use Rattle.output.specs.declared.refusal.Refusal.TheVariants.{TooLong}
use Rattle.output.specs.declared.status.Status.{Status}
use Rattle.inputs.specs.Asks.{GivenTextWith}
use Rattle.inputs.specs.Questions.{IsLonger}
use Rattle.reward_formula.specs.Formula.{RewardTree}
use Rattle.reward_formula.specs.Spelling.{reward_spelling}
use Rattle.reward_check.specs.Certificates.{Certificate}
use Rattle.reward_units.specs.Exact.{ExactRewards}
use Rattle.reward_units.specs.Rounded.{exact_in}
use Rattle.reward_text.specs.declared.plan.RewardPlan.{RewardPlan}
use Rattle.reward_text.specs.Entries.{RewardEntry, HasRewardStates, IsRewardEntry, AreBounds, reward_entries_of}
use Rattle.reward_text.specs.Written.{reward_certificate_text}
use Rattle.reward_audit.specs.Accepted.{IsAcceptedText, IsCertificateOf}
use Rattle.reward_audit.specs.Refused.{IsRefused}
use Rattle.reward_audit.specs.declared.fault.RewardAuditFault.TheVariants.{Text, Plan}
use Rattle.reward_reports.specs.Reports.{IsRewardReport}
use Rattle.reward_refusals.specs.declared.refusal.RewardRefusal.{RewardRefusal}
use Rattle.reward_refusals.specs.declared.refusal.RewardRefusal.TheVariants.{Shared, OfCertificateText, OfCertificate}
use Rattle.reward_inputs.specs.Posed.{RewardQuestion}

-- These are the exact rewards of a question, if a table has those that its lines give.
abbrev pub exact_by : RewardQuestion → List (Option Fraction) → ExactRewards
exact_by question table = exact_in question.posing.question.game table

-- A table has for each state, and for each choice, the reward that the lines of the question give.
abbrev pub HasRewardsOf : RewardQuestion → List (Option Fraction) → Type 0
HasRewardsOf question table = HasRewards question.posing.question.game question.lines table

-- 1. Why a certificate is refused.

-- Over exact rewards a text is refused as the certificate of a question because it is too long, or because this is its
-- first fault.
abbrev pub RefusesOver : Query → ExactRewards → Option (List ℕ) → RewardRefusal → Type 0
RefusesOver q exact source (OfCertificateText fault) =
    GivenTextWith source (λ text. IsRefused q exact text (Text fault))
RefusesOver q exact source (OfCertificate fault) = GivenTextWith source (λ text. IsRefused q exact text (Plan fault))
RefusesOver q exact source (Shared (TooLong Cert)) = IsLonger source
RefusesOver q exact source refusal = ⊥

-- A text is refused as the certificate of a question over its rewards.
pub record RefusesRewardCertificate (question : RewardQuestion) (source : Option (List ℕ)) (refusal : RewardRefusal)
    : Type 0 where
  pub table : List (Option Fraction)
  pub has : HasRewardsOf question table
  pub refused : RefusesOver question.posing.question (exact_by question table) source refusal

-- 2. What is reported.

-- The text and the status report on this certificate of the question, over these exact rewards.
abbrev pub ReportsOn : RewardQuestion → ExactRewards → How → ℕ → Certificate → List ℕ → Status → Type 0
ReportsOn question exact how places c text status = IsRewardReport question.posing.question exact
    question.posing.initial question.formula.bound how places c text status

-- The text and the status are the answer of an audit: over the rewards of the question a certificate is accepted that
-- the bytes have, and this is the report on it.
pub record IsRewardAudit (question : RewardQuestion) (bytes text : List ℕ) (status : Status) : Type 0 where
  pub table : List (Option Fraction)
  pub has : HasRewardsOf question table
  pub plan : RewardPlan
  pub certificate : Certificate
  pub accepted : IsAcceptedText question.posing.question (exact_by question table) bytes plan certificate
  pub report : ReportsOn question (exact_by question table) Audited plan.places certificate text status

-- The text of a certificate follows the line `formula F`, if it is asked for.
abbrev pub certificate_part : Bool → RewardTree → RewardPlan → List ℕ
certificate_part false f plan = []
certificate_part true f plan = (codes "formula " ++ (reward_spelling f ++ codes "\n"))
    ++ reward_certificate_text plan.places (reward_entries_of plan)

-- The text and the status are the answer of a solver: over the rewards of the question a certificate is accepted, its
-- lower value is a number exactly where the minimiser can reach a goal almost surely, and this is the report on it. The
-- plan has an entry for each state, within the limits of a text, and the bounds of each entry go together. The text of
-- the certificate follows if it is asked for.
pub record IsRewardSolved (question : RewardQuestion) (asked : Bool) (text : List ℕ) (status : Status) : Type 0 where
  pub table : List (Option Fraction)
  pub has : HasRewardsOf question table
  pub plan : RewardPlan
  pub certificate : Certificate
  pub of_plan : IsCertificateOf question.posing.question (exact_by question table) plan certificate
  pub finite : AreAlmostSure (turned question.posing.question) plan.finite.items
  pub lists : HasRewardStates plan (states question.posing.question)
  pub entries : All IsRewardEntry (reward_entries_of plan)
  pub bounds : All (λ (entry : RewardEntry). AreBounds entry.lower entry.upper) (reward_entries_of plan)
  pub lines : List ℕ
  pub report : ReportsOn question (exact_by question table) Solved plan.places certificate lines status
  pub written : text ≡ lines ++ certificate_part asked question.formula plan
