-- These definitions say what a sound plan tells of the initial states, and of the values that a formula asks for.
use Rattle.std.specs.Prelude.{◌≡◌, ℕ, ◌-◌, ◌*◌, ◌<◌, ◌≤◌, true, List, slice_index, All, if◌then◌else◌}
use Rattle.game_model.specs.Limits.{unit}
use Rattle.game_model.specs.Query.{Query, states}
use Rattle.strategies.specs.Strategies.{AvoidsAgainstAll, IsAvoidedAgainstAll}
use Rattle.determinacy.specs.Exact.{HasValues}
use Rattle.formula_reader.specs.Formula.{Tree}
use Rattle.plan_text.specs.declared.plan.Plan.{Plan}
use Rattle.certificate_audit.specs.Accepted.{IsSoundPlan}
use Rattle.verdicts.specs.Exact.{IsRight}
use Rattle.verdicts.specs.declared.report.ReportLine.{ReportLine}
use Rattle.output.specs.Printed.{is_mirrored, status_of}
use Rattle.output.specs.declared.status.Status.{Status}

-- The value that a formula asks for at a state is that of the question, or for `G` it is 1 less that of the dual.
abbrev pub asked_value : {q : Query} → Tree → HasValues q → ℕ → ℕ
asked_value f values s = if is_mirrored f.kind then values.top - values.value s else values.value s

-- The value that the formula asks for at the line's state lies between the bounds of the line. If the verdict is True,
-- this value meets the threshold, and if it is False, it does not.
pub record IsPrintedOf {q : Query} (values : HasValues q) (f : Tree) (line : ReportLine) : Type 0 where
  pub below : line.lower * values.top ≤ unit * asked_value f values line.state
  pub above : unit * asked_value f values line.state ≤ line.upper * values.top
  pub right : IsRight f.bound (asked_value f values line.state) values.top line.verdict

-- The goals of the dual of `G` are the states to stay away from. With the replies, play stays away with at least the
-- printed lower probability. With the choices, it stays away with at most the printed upper one and any 1/m.
pub record KeepsAway (q : Query) (plan : Plan) : Type 0 where
  pub avoids : AvoidsAgainstAll q plan.replies.items (λ s. unit - slice_index plan.upper.items s)
  pub avoided : IsAvoidedAgainstAll q plan.choices.items (λ s. unit - slice_index plan.lower.items s)

-- What the lines and the plan say of the initial states is right, and the status is that of the lines.
pub record IsSoundReport (q : Query) (initial : List ℕ) (f : Tree) (plan : Plan) (lines : List ReportLine)
    (status : Status) : Type 0 where
  pub inside : All (λ s. s < states q) initial
  -- The minimiser's replies hold every strategy of the maximiser to the upper bounds. The maximiser's choices reach the
  -- lower bounds, less any 1/m, against every strategy of the minimiser.
  pub sound : IsSoundPlan q plan
  pub keeps_away : is_mirrored f.kind ≡ true → KeepsAway q plan
  -- The question has values. At each initial state the value that is asked for lies between the printed bounds, and
  -- True and False are right for it.
  pub values : HasValues q
  pub valued : All (IsPrintedOf values f) lines
  pub ends : status ≡ status_of lines
