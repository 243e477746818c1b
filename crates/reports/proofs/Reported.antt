-- The answer to a question, from its bracket and the plan that is printed of it.
use Rattle.std.proofs.Common.{◌≡◌, ◌≤◌, ◌<◌, ◌-◌, inl, inr, ℕ, Bool, List, map, Result, Ok, Err, refl}
use Rattle.std.specs.Prelude.{All, IfOk, slice_index, slice_index_or, if◌then◌else◌}
use Rattle.std.proofs.lemmas.List.Elements.{All-map}
use Rattle.game_model.specs.Limits.{unit}
use Rattle.game_model.specs.Query.{Query, IsQuery, states}
use Rattle.game_model.specs.Rounded.{IsBelow}
use Rattle.game_model.specs.Dual.{IsZeroSet}
use Rattle.formula_reader.specs.Formula.{Tree}
use Rattle.plan_text.specs.declared.plan.Plan.{Plan}
use Rattle.plan_text.specs.Entries.{HasStates}
use Rattle.certificate_audit.specs.Accepted.{Passes, IsSoundPlan}
use Rattle.formula_reader.specs.declared.formula.Bound.{Bound}
use Rattle.verdicts.specs.declared.verdict.Verdict.{Verdict}
use Rattle.verdicts.specs.declared.verdict.Verdict.TheVariants.{Undecided}
use Rattle.verdicts.specs.Verdict.{verdict_of}
use Rattle.verdicts.specs.declared.report.How.TheVariants.{Rounds}
use Rattle.verdicts.specs.Open.{IsLeftOpen}
use Rattle.bracket_engine.specs.declared.bounds.Bracket.{Bracket}
use Rattle.bracket_engine.specs.Bracket.{IsBracket}
use Rattle.command_words.specs.Words.{Check}
use Rattle.output.specs.declared.status.Status.{Status}
use Rattle.formula_reader.specs.declared.formula.PathKind.{PathKind}
use Rattle.formula_reader.specs.declared.formula.PathKind.TheVariants.{Until, Within, Next, Always}
use Rattle.rpatl_syntax.specs.Dual.{IsAtMostOne, dual_bound, answered_by, answered}
use Rattle.output.specs.Printed.{is_mirrored, status_of, output_of}
use Rattle.bracket_engine.specs.BracketOfRun.{IsBracketOfRun}
use Rattle.bracket_engine.proofs.Opening.{left-open}
use Rattle.reports.specs.Reports.{IsPrintedPlan, IsBracketReport}
use Rattle.reports.proofs.Limits.{plan_line}
use Rattle.reports.proofs.Valued.{told}
use Rattle.output.specs.Outputs.{output_text, IsInLimits}

-- 1. Verdicts of `G` and of its dual.

-- what the printed bounds say is what the bounds of the question that is answered say of its bound
abbrev pub Mirrors : Type 0
Mirrors = (bound : Bound) (lower upper : ℕ) → IsAtMostOne bound → lower ≤ unit → upper ≤ unit
    → verdict_of bound (unit - upper) (unit - lower) ≡ verdict_of (dual_bound bound) lower upper

pub verdict-answered : Mirrors → (f : Tree) → IsAtMostOne f.bound → (lower upper : ℕ) → lower ≤ unit
    → upper ≤ unit → verdict_of f.bound (if is_mirrored f.kind then unit - upper else lower)
    (if is_mirrored f.kind then unit - lower else upper) ≡ verdict_of (answered f).bound lower upper
verdict-answered mirrors f share lower upper low high = by f.kind
  where
    by : (kind : PathKind) → verdict_of f.bound (if is_mirrored kind then unit - upper else lower)
        (if is_mirrored kind then unit - lower else upper) ≡ verdict_of (answered_by kind f).bound lower upper
    by Until = refl
    by (Within steps) = refl
    by Next = refl
    by Always = mirrors f.bound lower upper share low high

-- 2. What is undecided is left open.

-- what the bounds of a plan say
abbrev pub plan_verdict : Bound → Plan → ℕ → Verdict
plan_verdict bound plan s = verdict_of bound (slice_index plan.lower.items s) (slice_index plan.upper.items s)

pub all-left_open : (q : Query) (zero : List Bool) (bound : Bound) (initial : List ℕ) (asked : ℕ) (found : Bracket)
    (plan : Plan) → IsQuery q → IsBelow q (slice_index found.base.items) (slice_index plan.lower.items)
    → IsBelow q (slice_index plan.upper.items) (slice_index found.plan.upper.items)
    → IsBracket q zero bound initial asked found.base.items found.plan.upper.items found.rounds found.stable
    → All (λ s. s < states q) initial → All (λ s. plan_verdict bound plan s ≡ Undecided
    → IsLeftOpen q zero bound asked (slice_index plan.lower.items) (slice_index plan.upper.items) s) initial
all-left_open q zero bound initial asked found plan posed above below bounds within = λ i d there undecided.
    let s : ℕ = slice_index_or initial i d in
    let inside : s < states q = within i d there in
    left-open q posed zero bound asked (slice_index found.base.items) (slice_index found.plan.upper.items)
    (slice_index plan.lower.items) (slice_index plan.upper.items) s inside (above s inside) (below s inside) undecided
    (elim bounds.near.narrow_asked [ inl settled ↦ inl (settled i d there) | inr narrow ↦ inr narrow ])

-- 3. The whole answer.

-- what is known of a question before its answer is written
pub record IsReady (q : Query) (initial : List ℕ) (f : Tree) (check : Check) (zero : List Bool) (found : Bracket)
    (plan : Plan) : Type 0 where
  pub posed : IsQuery q
  pub inside : All (λ s. s < states q) initial
  pub is_zero : IsZeroSet q zero
  pub is_found : IsBracketOfRun q zero (answered f).bound initial check.rounds found
  pub shown : IsPrintedPlan q check.traps found.plan plan
  pub lists : HasStates plan (states q)
  pub sound : IsSoundPlan q plan
  pub passes : Passes q plan
  pub limits : IsInLimits (output_of check.plan f (Rounds found.rounds) initial plan)
  pub left_open : All (λ s. (plan_line f (Rounds found.rounds) plan s).verdict ≡ Undecided → IsLeftOpen q zero
      (answered f).bound check.rounds (slice_index plan.lower.items) (slice_index plan.upper.items) s) initial

pub reported : {X E : Type 0} (text : X → List ℕ) (ends : X → Status) (q : Query)
    (initial : List ℕ) (f : Tree) (check : Check) (zero : List Bool) (found : Bracket) (plan : Plan)
    → IsReady q initial f check zero found plan → (result : Result X E)
    → IfOk result (λ answer. text answer ≡ output_text (output_of check.plan f (Rounds found.rounds) initial plan))
    → IfOk result (λ answer. ends answer ≡ status_of (map (plan_line f (Rounds found.rounds) plan) initial))
    → IfOk result (λ answer. IsBracketReport q initial f check (text answer) (ends answer))
reported text ends q initial f check zero found plan ready (Ok answer) written ended = record {
  posed = ready.posed;
  zero = zero;
  is_zero = ready.is_zero;
  found = found;
  is_found = ready.is_found;
  plan = plan;
  shown = ready.shown;
  lists = ready.lists;
  told = told q ready.posed f plan ready.sound (Rounds found.rounds) initial _ ready.inside ended;
  passes = ready.passes;
  written = written;
  limits = ready.limits;
  left_open = All-map (λ line. line.verdict ≡ Undecided → IsLeftOpen q zero (answered f).bound check.rounds
      (slice_index plan.lower.items) (slice_index plan.upper.items) line.state)
      (plan_line f (Rounds found.rounds) plan) initial ready.left_open;
}
reported text ends q initial f check zero found plan ready (Err error) written ended = tt
