-- The certificate of an audit, from its text, and that of a solver.
use Rattle.std.proofs.Common.{◌≡◌, ◌<◌, ◌≤◌, ◌++◌, ℕ, Bool, List, length, All, Option, Result, Ok, Err, arith}
use Rattle.std.proofs.Common.{refl}
use Rattle.fractions.specs.Fraction.{Fraction}
use Rattle.game_outside.specs.Outside.{Holding}
use Rattle.game_model.specs.Query.{Query, IsQuery, states}
use Rattle.output.specs.declared.status.Status.{Status}
use Rattle.verdicts.specs.declared.report.How.TheVariants.{Audited, Solved}
use Rattle.inputs.specs.Asks.{GivenTextWith}
use Rattle.output.specs.declared.refusal.Text.TheVariants.{Cert}
use Rattle.inputs.specs.declared.load.End.{End}
use Rattle.inputs.specs.Loading.{EndsCaused, LoadingLeaves, LoadsText}
use Rattle.inputs.specs.Sources.{SourceWith}
use Rattle.inputs.specs.Texts.{text_said}
use Rattle.inputs.proofs.HeldTexts.{text_too_long}
use Rattle.inputs.proofs.Leaving.{answer_small}
use Rattle.reward_check.specs.Certificates.{Certificate}
use Rattle.reward_check.specs.Parts.{IsAccepted}
use Rattle.reward_units.specs.Exact.{ExactRewards, AreRounded, HaveValues}
use Rattle.reward_verdicts.specs.Truth.{IsUpTo}
use Rattle.reward_reports.specs.Printed.{lower_of, upper_of}
use Rattle.plan_text.specs.Entries.{greatest_rank}
use Rattle.reward_text.specs.declared.plan.RewardPlan.{RewardPlan}
use Rattle.reward_audit.specs.declared.fault.RewardAuditFault.{RewardAuditFault}
use Rattle.reward_audit.specs.declared.fault.RewardAuditFault.TheVariants.{Text, Plan}
use Rattle.reward_audit.specs.Accepted.{IsAcceptedText}
use Rattle.reward_audit.specs.Audited.{audited_certificate}
use Rattle.reward_audit.specs.Refused.{IsRefused}
use Rattle.solved_rewards.specs.declared.solved.SolvedRewards.{SolvedRewards}
use Rattle.reward_questions.specs.Solved.{IsSolvedQuestion}
use Rattle.reward_inputs.specs.declared.end.RewardEnd.{RewardEnd}
use Rattle.reward_refusals.specs.Caused.{IsShared}
use Rattle.reward_inputs.specs.Loading.{AsksNothing, RewardEndsCaused, RewardLoadingLeaves, reward_end}
use Rattle.reward_inputs.proofs.Ends.{caused_shared}
use Rattle.reward_inputs.specs.Posed.{RewardQuestion}
use Rattle.reward_app.specs.Reports.{HasRewardsOf, IsRewardAudit, IsRewardSolved, RefusesOver, ReportsOn}
use Rattle.reward_app.specs.Reports.{certificate_part, exact_by}
use Rattle.reward_app.specs.inside.Certified.{IsAlive, IsCertified, as_audited, refusal_of}
use Rattle.reward_app.proofs.Entries.{entries-fit, entries-bounded}

-- what is true of the source is true
pub weaker_source : (holding : Option Holding) (name : List ℕ) (P Q : Option (List ℕ) → Type 0)
    → ((source : Option (List ℕ)) → P source → Q source) → SourceWith holding name P → SourceWith holding name Q
weaker_source holding name P Q weaker has =
    record { source = has.source; told = has.told; is_so = weaker has.source has.is_so }

-- a text that is refused for a fault
pub refuses_of : (q : Query) (exact : ExactRewards) (source : Option (List ℕ)) (fault : RewardAuditFault)
    → GivenTextWith source (λ text. IsRefused q exact text fault) → RefusesOver q exact source (refusal_of fault)
refuses_of q exact source (Text fault) given = given
refuses_of q exact source (Plan fault) given = given

-- the text that is refused is too long, and this is no want of memory
pub text_caused : {X : Type 0} (Y : Type 0) {holding : Option Holding} {steady : Bool} (name : List ℕ)
    (view : X → List ℕ) (end : End)
    → LoadsText holding steady (λ held. held name) view (Err end) (text_said Cert) → EndsCaused {X = X} (Err end)
    → RewardEndsCaused {X = Y} (Err (reward_end end))
text_caused {X} Y name view end says caused = caused_shared {X = X} Y end caused (λ refusal is.
    (text_too_long Cert name view (λ source s. IsShared s) (λ source long. tt) says (cc (is))).is_so)

-- behind a text that was loaded nothing is asked of the shelf
pub text_leaves : {S X Y : Type 0} {held : S → Option Holding} {steady : S → Bool} {faults took : S → ℕ} {old new : S}
    {x : X} (result : Result Y RewardEnd) → AsksNothing result
    → LoadingLeaves held steady faults took old new (Ok x) → RewardLoadingLeaves held steady faults took old new result
text_leaves {new = new} {x = x} result nothing leaves =
    let small = answer_small x _ leaves.takes in
    record {
      read_fault = λ fails. absurd (nothing.read fails);
      takes = record {
        most = omega (arith, small);
        too_long = λ long. absurd (nothing.short long);
        only_too_long = λ above. absurd (omega (arith, small, above));
      };
      kept = leaves.kept;
    }

-- a certificate that is accepted is reported on
pub accepted_audited : (holding : Option Holding) (name : List ℕ) (question : RewardQuestion)
    (table : List (Option Fraction)) (plan : RewardPlan) (c : Certificate) (text : List ℕ) (status : Status)
    → HasRewardsOf question table → ReportsOn question (exact_by question table) Audited plan.places c text status
    → SourceWith holding name (λ source. GivenTextWith source (λ bytes.
    IsAcceptedText question.posing.question (exact_by question table) bytes plan c))
    → SourceWith holding name
    (λ source. GivenTextWith source (λ bytes. IsRewardAudit question bytes text status))
accepted_audited holding name question table plan c text status has report accepted = record {
  source = accepted.source;
  told = accepted.told;
  is_so = record {
    text = accepted.is_so.text;
    given = accepted.is_so.given;
    short = accepted.is_so.short;
    is_so = record {
      table = table;
      has = has;
      plan = plan;
      certificate = c;
      accepted = accepted.is_so.is_so;
      report = report;
    };
  };
}

-- what a solver led to is a certificate that is accepted
pub solved_certified : (q : Query) (table : List (Option Fraction)) (solved : SolvedRewards)
    → IsSolvedQuestion q table solved → IsCertified q table (as_audited solved)
solved_certified q table solved is = record {
  places = is.places;
  lists = record {
    finite = is.lists.finite;
    lower = is.lists.lower;
    choices = is.lists.choices;
    ranks = is.lists.ranks;
    bounded = is.lists.bounded;
    upper = is.lists.upper;
    replies = is.lists.replies;
  };
  lower = is.lists.lower_units;
  upper = is.lists.upper_units;
  low = is.low;
  high = is.high;
  passes = is.accepted;
}

-- the law that accepted bounds are in order
abbrev pub AreAllInOrder : Type 0
AreAllInOrder = (c : Certificate) (exact : ExactRewards) (places : ℕ) → IsQuery c.question → IsAlive c.question
    → length c.bounded ≡ states c.question → AreRounded c exact places → HaveValues c → IsAccepted c
    → (s : ℕ) → s < states c.question → IsUpTo (lower_of c s) (upper_of c s)

-- it is reported on
pub solved_reported : AreAllInOrder → (question : RewardQuestion) (asked : Bool) (table : List (Option Fraction))
    (solved : SolvedRewards) (lines text : List ℕ) (status : Status) → HasRewardsOf question table
    → IsAlive question.posing.question → IsSolvedQuestion question.posing.question table solved
    → All (λ r. r ≤ greatest_rank) solved.ranks.items
    → ReportsOn question (exact_by question table) Solved solved.places
    (audited_certificate question.posing.question (as_audited solved)) lines status
    → text ≡ lines ++ certificate_part asked question.formula (as_audited solved).plan
    → IsRewardSolved question asked text status
solved_reported in_order question asked table solved lines text status has alive is ranks report written = record {
  table = table;
  has = has;
  plan = (as_audited solved).plan;
  certificate = audited_certificate question.posing.question (as_audited solved);
  of_plan = record {
    question = refl;
    rounded = report.certificate.rounded;
    finite = refl;
    bounded = refl;
    lower = refl;
    upper = refl;
    choices = refl;
    replies = refl;
    ranks = refl;
  };
  finite = is.finite;
  lists = (solved_certified question.posing.question table solved is).lists;
  entries = entries-fit question.posing.question table solved report.certificate.posed alive is ranks;
  bounds = entries-bounded question.posing.question table solved report.certificate.posed alive is
      (in_order (audited_certificate question.posing.question (as_audited solved)) (exact_by question table)
      solved.places report.certificate.posed alive is.lists.bounded report.certificate.rounded
      report.certificate.values is.accepted);
  lines = lines;
  report = report;
  written = written;
}
