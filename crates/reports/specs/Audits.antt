-- These definitions give the answer of an audit: a report of the initial states from a certificate that is accepted.
use Rattle.std.specs.Prelude.{◌≡◌, ℕ, false, List, slice_index, All}
use Rattle.game_model.specs.Query.{Query, IsQuery}
use Rattle.formula_reader.specs.Formula.{Tree}
use Rattle.plan_text.specs.declared.plan.Plan.{Plan}
use Rattle.certificate_audit.specs.Accepted.{IsAccepted}
use Rattle.verdicts.specs.Open.{LeavesOpen}
use Rattle.verdicts.specs.Report.{IsLine, report}
use Rattle.verdicts.specs.declared.report.How.TheVariants.{Audited}
use Rattle.verdicts.specs.declared.verdict.Verdict.TheVariants.{Undecided}
use Rattle.rpatl_syntax.specs.Dual.{answered}
use Rattle.output.specs.Printed.{output_of}
use Rattle.output.specs.declared.status.Status.{Status}
use Rattle.reports.specs.Valued.{IsSoundReport}

-- The text and the status say of the initial states what the certificate says, and that is right. For `G` the
-- certificate is that of the dual.
pub record IsAudited (q : Query) (initial : List ℕ) (f : Tree) (plan : Plan) (text : List ℕ)
    (status : Status) : Type 0 where
  pub posed : IsQuery q
  pub told : IsSoundReport q initial f plan (output_of false f Audited initial plan).lines status
  pub written : text ≡ report (output_of false f Audited initial plan).lines
  pub lines : All IsLine (output_of false f Audited initial plan).lines
  -- Undecided is said only if the bounds leave the threshold open.
  pub left_open : All (λ line. line.verdict ≡ Undecided → LeavesOpen (answered f).bound
      (slice_index plan.lower.items line.state) (slice_index plan.upper.items line.state) 1 0)
      (output_of false f Audited initial plan).lines

-- The text and the status are the answer of an audit: the question accepts the certificate that was read, whoever made
-- it.
pub record IsAudit (q : Query) (initial : List ℕ) (f : Tree) (certificate text : List ℕ)
    (status : Status) : Type 0 where
  pub plan : Plan
  pub accepted : IsAccepted q certificate plan
  pub audited : IsAudited q initial f plan text status
