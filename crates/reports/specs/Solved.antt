-- These definitions give the answer of `solve`: a report of a plan that the tables of a solver led to, and its
-- certificate if that is asked for.
use Rattle.std.specs.Prelude.{◌≡◌, ℕ, Bool, List, slice_index, All}
use Rattle.game_model.specs.Query.{Query, IsQuery}
use Rattle.formula_reader.specs.Formula.{Tree}
use Rattle.rpatl_syntax.specs.Dual.{answered}
use Rattle.plan_text.specs.declared.plan.Plan.{Plan}
use Rattle.solved_plans.specs.Plans.{IsSolvedPlan}
use Rattle.verdicts.specs.Open.{LeavesOpen}
use Rattle.verdicts.specs.declared.report.How.TheVariants.{Solved}
use Rattle.verdicts.specs.declared.verdict.Verdict.TheVariants.{Undecided}
use Rattle.output.specs.Outputs.{output_text, IsInLimits}
use Rattle.output.specs.Printed.{output_of}
use Rattle.output.specs.declared.status.Status.{Status}
use Rattle.reports.specs.Valued.{IsSoundReport}

-- The text and the status are the answer: they are those of a solved plan, which passes an audit and is sound. For `G`
-- the question is that of its dual, and the bounds are mirrored when they are printed.
pub record IsSolved (q : Query) (initial : List ℕ) (f : Tree) (asked : Bool) (text : List ℕ)
    (status : Status) : Type 0 where
  pub posed : IsQuery q
  pub plan : Plan
  pub is_plan : IsSolvedPlan q plan
  pub told : IsSoundReport q initial f plan (output_of asked f Solved initial plan).lines status
  pub written : text ≡ output_text (output_of asked f Solved initial plan)
  pub limits : IsInLimits (output_of asked f Solved initial plan)
  -- Undecided is said only if the bounds leave the threshold open.
  pub left_open : All (λ line. line.verdict ≡ Undecided → LeavesOpen (answered f).bound
      (slice_index plan.lower.items line.state) (slice_index plan.upper.items line.state) 1 0)
      (output_of asked f Solved initial plan).lines
