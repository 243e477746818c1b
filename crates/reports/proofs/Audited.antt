-- The report of a certificate that is accepted.
use Rattle.std.proofs.Common.{◌≡◌, ◌<◌, ℕ, List, map, Result, Ok, Err, arith}
use Rattle.std.specs.Prelude.{All, IfOk, slice_index}
use Rattle.std.proofs.lemmas.List.Elements.{All-map, All-weaker}
use Rattle.game_model.specs.Query.{Query, IsQuery, states}
use Rattle.formula_reader.specs.Formula.{Tree}
use Rattle.plan_text.specs.declared.plan.Plan.{Plan}
use Rattle.plan_text.specs.Entries.{HasStates}
use Rattle.certificate_audit.specs.Accepted.{Passes, IsSoundPlan}
use Rattle.verdicts.specs.Report.{IsLine, report}
use Rattle.verdicts.specs.Open.{LeavesOpen}
use Rattle.verdicts.specs.declared.report.How.TheVariants.{Audited}
use Rattle.verdicts.specs.declared.verdict.Verdict.TheVariants.{Undecided}
use Rattle.output.specs.declared.status.Status.{Status}
use Rattle.output.specs.Printed.{is_mirrored, status_of}
use Rattle.reports.specs.Audits.{IsAudited}
use Rattle.rpatl_syntax.specs.Dual.{answered}
use Rattle.reports.proofs.Valued.{told}
use Rattle.reports.proofs.Limits.{plan-units, plan_line, printed-units}

module _ (q : Query) (posed : IsQuery q) (f : Tree) (plan : Plan) (lists : HasStates plan (states q))
    (passes : Passes q plan) where
  line-in_range : (s : ℕ) → s < states q → IsLine (plan_line f Audited plan s)
  line-in_range s within = record {
    state = omega (arith, within, posed.game.few);
    count = tt;
    values =
        let units = plan-units q plan lists passes s within in
        printed-units (is_mirrored f.kind) _ _ units.0 units.1;
  }

  pub lines-in_range : (initial : List ℕ) → All (λ s. s < states q) initial
      → All IsLine (map (plan_line f Audited plan) initial)
  lines-in_range initial inside = All-map IsLine (plan_line f Audited plan) initial
      (All-weaker (λ s. s < states q) (λ s. IsLine (plan_line f Audited plan s)) line-in_range initial inside)

pub audited : {X E : Type 0} (text : X → List ℕ) (ends : X → Status) (q : Query) (posed : IsQuery q)
    (initial : List ℕ) (f : Tree) (plan : Plan) → All (λ s. s < states q) initial → IsSoundPlan q plan
    → All IsLine (map (plan_line f Audited plan) initial) → All (λ s. (plan_line f Audited plan s).verdict ≡ Undecided
    → LeavesOpen (answered f).bound (slice_index plan.lower.items s) (slice_index plan.upper.items s) 1 0) initial
    → (result : Result X E) → IfOk result (λ answer. text answer ≡ report (map (plan_line f Audited plan) initial))
    → IfOk result (λ answer. ends answer ≡ status_of (map (plan_line f Audited plan) initial))
    → IfOk result (λ answer. IsAudited q initial f plan (text answer) (ends answer))
audited text ends q posed initial f plan inside sound lines left_open (Ok answer) written ended = record {
  posed = posed;
  told = told q posed f plan sound Audited initial _ inside ended;
  written = written;
  lines = lines;
  left_open = All-map (λ line. line.verdict ≡ Undecided → LeavesOpen (answered f).bound
      (slice_index plan.lower.items line.state) (slice_index plan.upper.items line.state) 1 0)
      (plan_line f Audited plan) initial left_open;
}
audited text ends q posed initial f plan inside sound lines left_open (Err error) written ended = tt
