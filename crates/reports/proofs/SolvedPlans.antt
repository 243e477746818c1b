-- The answer of `solve`, from the plan that was handed out.
use Rattle.std.proofs.Common.{◌≡◌, ◌<◌, ◌≤◌, ℕ, Bool, List, map, Result, Ok, Err}
use Rattle.std.specs.Prelude.{All, IfOk, slice_index}
use Rattle.std.proofs.lemmas.List.Elements.{All-map}
use Rattle.game_model.specs.Query.{Query, IsQuery, states}
use Rattle.formula_reader.specs.Formula.{Tree}
use Rattle.rpatl_syntax.specs.Dual.{answered}
use Rattle.rank_certificate.proofs.Layered.{none-at-goals, none-at-deads, none-at-least, none-at-zero}
use Rattle.plan_text.specs.declared.plan.Plan.{Plan}
use Rattle.plan_text.specs.Entries.{greatest_rank}
use Rattle.solved_plans.specs.Plans.{IsSolvedPlan}
use Rattle.bracket_engine.specs.Choices.{AreChoices}
use Rattle.verdicts.specs.Open.{LeavesOpen}
use Rattle.verdicts.specs.declared.report.How.TheVariants.{Solved}
use Rattle.verdicts.specs.declared.verdict.Verdict.TheVariants.{Undecided}
use Rattle.output.specs.Outputs.{output_text}
use Rattle.output.specs.Printed.{output_of, status_of}
use Rattle.output.specs.declared.status.Status.{Status}
use Rattle.reports.specs.Solved.{IsSolved}
use Rattle.reports.proofs.Limits.{IsPrintable, plan_line, printed-in_limits}
use Rattle.reports.proofs.Valued.{told}

module _ (q : Query) (posed : IsQuery q) (plan : Plan) (is_plan : IsSolvedPlan q plan)
    (fit : All (λ r. r ≤ greatest_rank) plan.ranks.items) where
  chosen : AreChoices q plan.lower.items plan.choices.items
  chosen = record {
    as_many = is_plan.lists.choices;
    none_at_goals = none-at-goals q plan.lower.items plan.choices.items plan.ranks.items is_plan.choices;
    none_at_deads = none-at-deads q plan.lower.items plan.choices.items plan.ranks.items is_plan.choices;
    none_at_least = none-at-least q plan.lower.items plan.choices.items plan.ranks.items is_plan.choices;
    none_at_zero = none-at-zero q plan.lower.items plan.choices.items plan.ranks.items is_plan.choices;
  }

  printable : IsPrintable q plan
  printable = record {
    posed = posed;
    lists = is_plan.lists;
    passes = is_plan.passes;
    choices = chosen;
    table = slice_index plan.upper.items;
    replies = is_plan.replies;
    ranks_fit = fit;
  }

  pub solved : {X E : Type 0} (text : X → List ℕ) (ends : X → Status) (initial : List ℕ) (f : Tree) (asked : Bool)
      → All (λ s. s < states q) initial
      → All (λ s. (plan_line f Solved plan s).verdict ≡ Undecided
      → LeavesOpen (answered f).bound (slice_index plan.lower.items s) (slice_index plan.upper.items s) 1 0) initial
      → (result : Result X E)
      → IfOk result (λ answer. text answer ≡ output_text (output_of asked f Solved initial plan))
      → IfOk result (λ answer. ends answer ≡ status_of (map (plan_line f Solved plan) initial))
      → IfOk result (λ answer. IsSolved q initial f asked (text answer) (ends answer))
  solved text ends initial f asked inside left_open (Ok answer) written ended = record {
    posed = posed;
    plan = plan;
    is_plan = is_plan;
    told = told q posed f plan is_plan.sound Solved initial _ inside ended;
    written = written;
    limits = printed-in_limits q plan initial Solved printable tt inside asked f;
    left_open = All-map (λ line. line.verdict ≡ Undecided → LeavesOpen (answered f).bound
        (slice_index plan.lower.items line.state) (slice_index plan.upper.items line.state) 1 0)
        (plan_line f Solved plan) initial left_open;
  }
  solved text ends initial f asked inside left_open (Err error) written ended = tt
