-- What `solve` writes of expected rewards is a certificate that an audit accepts.
use Rattle.std.proofs.Common.{◌≡◌, ◌∙◌, ◌++◌, ℕ, true, List, length, Ok, All, ap, arith}
use Rattle.std.proofs.lemmas.List.Elements.{All-weaker}
use Rattle.std.proofs.lemmas.List.FromFn.{length-map-range_with_len}
use Rattle.output.specs.declared.status.Status.{Status}
use Rattle.reward_formula.specs.Spellable.{IsSpellableReward}
use Rattle.reward_inputs.specs.Posed.{RewardQuestion}
use Rattle.verdicts.specs.declared.report.How.TheVariants.{Solved}
use Rattle.reward_verdicts.specs.declared.report.RewardLine.{RewardLine}
use Rattle.reward_verdicts.specs.Report.{IsRewardLine}
use Rattle.reward_reports.specs.Printed.{reward_lines_of}
use Rattle.reward_reports.specs.Reports.{IsRightLine}
use Rattle.reward_text.specs.Entries.{RewardCertificate, certificate_of, reward_entry_at, reward_entries_of}
use Rattle.reward_text.specs.Said.{rewards_said}
use Rattle.reward_text.specs.Certificate.{IsRewardCertificate}
use Rattle.reward_audit.specs.Accepted.{IsAcceptedText}
use Rattle.reward_app.specs.Reports.{IsRewardSolved, certificate_part, exact_by}
use Rattle.reward_app.proofs.Passing.{AreRewardsReadBack, read-behind}

-- a certificate that is read from a text stands in it
abbrev pub AreRewardCertificates : Type 0
AreRewardCertificates = (text : List ℕ) (certificate : RewardCertificate)
    → rewards_said text (length certificate.entries) ≡ Ok certificate → IsRewardCertificate text certificate

pub solved-accepted : AreRewardsReadBack → AreRewardCertificates → (question : RewardQuestion) (text : List ℕ)
    (status : Status) → IsSpellableReward question.formula → (is : IsRewardSolved question true text status)
    → IsAcceptedText question.posing.question (exact_by question is.table) text is.plan is.certificate
solved-accepted read_back certificates question text status spelled is =
    let entries = reward_entries_of is.plan in
    let n = length is.plan.lower.items in
    let places = is.plan.places in
    let lines : List RewardLine =
    reward_lines_of question.formula.bound Solved places is.certificate question.posing.initial in
    let fit : All IsRewardLine lines =
    All-weaker (IsRightLine question.formula.bound places) IsRewardLine (λ line right. right.fits) lines
    is.report.lines in
    let said = read-behind read_back places lines question.formula entries fit spelled is.report.certificate.fine
    (omega (
      arith,
      length-map-range_with_len (reward_entry_at is.plan) 0 n,
      is.lists.lower,
      is.report.certificate.posed.game.few,
    )) is.entries is.bounds in
    let written = is.written ∙ ap (λ (t : List ℕ). t ++ certificate_part true question.formula is.plan)
    is.report.written in
    record {
      read = record {
        lists = is.lists;
        said = certificates text (certificate_of is.plan)
            (ap (λ (t : List ℕ). rewards_said t (length entries)) written ∙ said);
      };
      of_plan = is.of_plan;
      passes = is.report.certificate.accepted;
    }
