-- These definitions give the answer to a question: a report of its initial states, and its certificate if that is asked
-- for.
use Rattle.std.specs.Prelude.{◌≡◌, ℕ, Bool, true, false, List, slice_index, Option, All}
use Rattle.game_model.specs.Query.{Query, IsQuery, states}
use Rattle.game_model.specs.Rounded.{IsBelow}
use Rattle.game_model.specs.Dual.{IsZeroSet}
use Rattle.formula_reader.specs.Formula.{Tree}
use Rattle.plan_text.specs.declared.plan.Plan.{Plan}
use Rattle.plan_text.specs.Entries.{HasStates}
use Rattle.certificate_audit.specs.Accepted.{Passes}
use Rattle.verdicts.specs.Open.{IsLeftOpen}
use Rattle.verdicts.specs.declared.report.How.TheVariants.{Rounds}
use Rattle.verdicts.specs.declared.verdict.Verdict.TheVariants.{Undecided}
use Rattle.bracket_engine.specs.declared.bounds.Bracket.{Bracket}
use Rattle.bracket_engine.specs.BracketOfRun.{IsBracketOfRun}
use Rattle.trap_sets.specs.Lowered.{IsLoweredTable}
use Rattle.rpatl_syntax.specs.Dual.{answered}
use Rattle.command_words.specs.Words.{Check}
use Rattle.output.specs.Outputs.{output_text, IsInLimits}
use Rattle.output.specs.Printed.{output_of}
use Rattle.output.specs.declared.status.Status.{Status}
use Rattle.reports.specs.Valued.{IsSoundReport}

-- 1. What is printed of what was found.

-- The upper table is shown unchanged, or lowered to the best exits of the traps under the replies.
abbrev pub IsUpperShown : Query → Bool → List (Option ℕ) → List ℕ → List ℕ → Type 0
IsUpperShown q true replies upper shown = IsLoweredTable q replies upper shown
IsUpperShown q false replies upper shown = shown ≡ upper

-- The plan that is shown is the one that was found, but its upper table is lowered if that is asked for.
pub record IsPrintedPlan (q : Query) (traps : Bool) (found plan : Plan) : Type 0 where
  pub others : plan ≡ record {
    lower = found.lower;
    choices = found.choices;
    ranks = found.ranks;
    upper = plan.upper;
    replies = found.replies;
  }
  pub upper : IsUpperShown q traps found.replies.items found.upper.items plan.upper.items
  -- The upper table that is shown is nowhere above the one that was found.
  pub below : IsBelow q (slice_index plan.upper.items) (slice_index found.upper.items)

-- 2. The answer.

-- The text and the status are the answer to a question: they are those of a bracket after at most the asked rounds. For
-- `G` the question is that of its dual, and the bounds are mirrored when they are printed.
pub record IsBracketReport (q : Query) (initial : List ℕ) (f : Tree) (check : Check) (text : List ℕ)
    (status : Status) : Type 0 where
  pub posed : IsQuery q
  -- The marked states are those whose every k-step value is 0.
  pub zero : List Bool
  pub is_zero : IsZeroSet q zero
  pub found : Bracket
  pub is_found : IsBracketOfRun q zero (answered f).bound initial check.rounds found
  pub plan : Plan
  pub shown : IsPrintedPlan q check.traps found.plan plan
  pub lists : HasStates plan (states q)
  pub told : IsSoundReport q initial f plan (output_of check.plan f (Rounds found.rounds) initial plan).lines status
  pub passes : Passes q plan
  pub written : text ≡ output_text (output_of check.plan f (Rounds found.rounds) initial plan)
  pub limits : IsInLimits (output_of check.plan f (Rounds found.rounds) initial plan)
  -- Undecided is said only if the threshold is left open by the printed bounds, by the down steps of the asked rounds,
  -- and by the values of as many steps. For `G` this is the threshold of the dual.
  pub left_open : All (λ line. line.verdict ≡ Undecided
      → IsLeftOpen q zero (answered f).bound check.rounds (slice_index plan.lower.items)
      (slice_index plan.upper.items) line.state) (output_of check.plan f (Rounds found.rounds) initial plan).lines
