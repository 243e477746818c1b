-- What is printed of a bracket.
use Rattle.std.proofs.Common.{◌≤◌, ℕ, Bool, List, sym, subst}
use Rattle.std.specs.Prelude.{All, slice_index}
use Rattle.game_model.specs.Query.{Query, IsQuery, states}
use Rattle.game_model.specs.Rounded.{IsBelow}
use Rattle.inductive_check.specs.Replies.{AreFirstReplies}
use Rattle.formula_reader.specs.declared.formula.Bound.{Bound}
use Rattle.plan_text.specs.declared.plan.Plan.{Plan}
use Rattle.plan_text.specs.Entries.{HasStates, greatest_rank}
use Rattle.certificate_audit.specs.Accepted.{Passes}
use Rattle.bracket_engine.specs.declared.bounds.Bracket.{Bracket}
use Rattle.bracket_engine.specs.Choices.{AreChoices}
use Rattle.bracket_engine.specs.BracketOfRun.{IsBracketOfRun}
use Rattle.reports.specs.Reports.{IsPrintedPlan}
use Rattle.reports.proofs.Limits.{IsPrintable}

module _ (q : Query) (zero : List Bool) (bound : Bound) (initial : List ℕ) (asked : ℕ) (traps : Bool)
    (found : Bracket) (plan : Plan)
    (h : IsBracketOfRun q zero bound initial asked found) (shown : IsPrintedPlan q traps found.plan plan) where
  pub shown-above : IsBelow q (slice_index found.base.items) (slice_index plan.lower.items)
  shown-above = subst (λ (p : Plan). IsBelow q (slice_index found.base.items) (slice_index p.lower.items))
      (sym shown.others) h.lower.above

  pub shown-printable : IsQuery q → HasStates plan (states q) → Passes q plan
      → All (λ r. r ≤ greatest_rank) plan.ranks.items → IsPrintable q plan
  shown-printable posed lists passes fit = record {
    posed = posed;
    lists = lists;
    passes = passes;
    choices = subst (λ (p : Plan). AreChoices q p.lower.items p.choices.items) (sym shown.others) h.choices;
    table = slice_index found.plan.upper.items;
    replies = subst (λ (p : Plan). AreFirstReplies q (slice_index found.plan.upper.items) p.replies.items)
        (sym shown.others) h.replies;
    ranks_fit = fit;
  }
