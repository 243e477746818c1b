-- A report on what a solver found is one of an audit, but for the word of each line that says where it comes from.
use Rattle.std.proofs.Common.{◌≡◌, ◌∙◌, ◌∷◌, ℕ, Bool, true, List, [], All, refl, ap}
use Rattle.std.specs.Prelude.{if◌then◌else◌, ◌||◌}
use Rattle.std.specs.List.{list_any}
use Rattle.std.proofs.lemmas.List.Elements.{All-nil, All-cons, All-head, All-tail}
use Rattle.output.specs.declared.status.Status.{Status}
use Rattle.output.specs.declared.status.Status.TheVariants.{Fine, SomeFalse, SomeUndecided}
use Rattle.verdicts.specs.Verdict.{is_no, is_undecided}
use Rattle.verdicts.specs.declared.verdict.Verdict.{Verdict}
use Rattle.verdicts.specs.declared.report.How.TheVariants.{Audited, Solved}
use Rattle.reward_formula.specs.declared.formula.RewardBound.{RewardBound}
use Rattle.reward_check.specs.Certificates.{Certificate}
use Rattle.reward_verdicts.specs.declared.report.RewardLine.{RewardLine}
use Rattle.reward_verdicts.specs.Report.{reward_report}
use Rattle.reward_reports.specs.Printed.{reward_line_of, reward_lines_of, reward_status_of}
use Rattle.reward_reports.specs.Reports.{IsRightLine}
use Rattle.reward_inputs.specs.Posed.{RewardQuestion}
use Rattle.reward_audit.specs.Accepted.{IsAcceptedText}
use Rattle.reward_app.specs.Reports.{IsRewardAudit, IsRewardSolved, exact_by}

module _ (bound : RewardBound) (places : ℕ) (c : Certificate) where
  line-alike : (s : ℕ) → IsRightLine bound places (reward_line_of bound Solved places c s)
      → IsRightLine bound places (reward_line_of bound Audited places c s)
  line-alike s is = record {
    fits = record { state = is.fits.state; count = tt; lower = is.fits.lower; upper = is.fits.upper };
    ordered = is.ordered;
    right = is.right;
    left_open = is.left_open;
  }

  lines-alike : (initial : List ℕ) → All (IsRightLine bound places) (reward_lines_of bound Solved places c initial)
      → All (IsRightLine bound places) (reward_lines_of bound Audited places c initial)
  lines-alike [] are = All-nil (IsRightLine bound places)
  lines-alike (s ∷ initial) are =
      let line = reward_line_of bound Solved places c s in
      let lines = reward_lines_of bound Solved places c initial in
      All-cons (IsRightLine bound places) (reward_line_of bound Audited places c s)
      (reward_lines_of bound Audited places c initial)
      (line-alike s (All-head (IsRightLine bound places) line lines are))
      (lines-alike initial (All-tail (IsRightLine bound places) line lines are))

  any-alike : (test : Verdict → Bool) (initial : List ℕ)
      → list_any (λ (line : RewardLine). test line.verdict) (reward_lines_of bound Solved places c initial)
      ≡ list_any (λ (line : RewardLine). test line.verdict) (reward_lines_of bound Audited places c initial)
  any-alike test [] = refl
  any-alike test (s ∷ initial) =
      by (test (reward_line_of bound Solved places c s).verdict)
      (list_any (λ (line : RewardLine). test line.verdict) (reward_lines_of bound Solved places c initial))
      (list_any (λ (line : RewardLine). test line.verdict) (reward_lines_of bound Audited places c initial))
      (any-alike test initial)
    where
      by : (first solved audited : Bool) → solved ≡ audited → (first || solved) ≡ (first || audited)
      by first solved audited same = ap (λ (rest : Bool). first || rest) same

  status-alike : (initial : List ℕ) → reward_status_of (reward_lines_of bound Solved places c initial)
      ≡ reward_status_of (reward_lines_of bound Audited places c initial)
  status-alike initial =
      ap (λ (no : Bool). if no then SomeFalse else
      (if list_any (λ (line : RewardLine). is_undecided line.verdict) (reward_lines_of bound Solved places c initial)
      then SomeUndecided else Fine)) (any-alike is_no initial)
      ∙ ap (λ (undecided : Bool). if list_any (λ (line : RewardLine). is_no line.verdict)
      (reward_lines_of bound Audited places c initial) then SomeFalse else (if undecided then SomeUndecided else Fine))
      (any-alike is_undecided initial)

pub solved-audited : (question : RewardQuestion) (text : List ℕ) (status : Status)
    → (is : IsRewardSolved question true text status)
    → IsAcceptedText question.posing.question (exact_by question is.table) text is.plan is.certificate
    → IsRewardAudit question text (reward_report is.plan.places (reward_lines_of question.formula.bound Audited
    is.plan.places is.certificate question.posing.initial)) status
solved-audited question text status is accepted =
    let bound = question.formula.bound in
    let places = is.plan.places in
    let initial = question.posing.initial in
    record {
      table = is.table;
      has = is.has;
      plan = is.plan;
      certificate = is.certificate;
      accepted = accepted;
      report = record {
        certificate = is.report.certificate;
        inside = is.report.inside;
        lines = lines-alike bound places is.certificate initial is.report.lines;
        written = refl;
        ends = is.report.ends ∙ status-alike bound places is.certificate initial;
      };
    }
