-- What is printed of a plan that is sound lies on either side of the values.
use Rattle.std.proofs.Common.{◌≡◌, ℕ, ◌-◌, ◌*◌, ◌<◌, ◌≤◌, Bool, true, false, List, map}
use Rattle.std.specs.Prelude.{All, slice_index, if◌then◌else◌}
use Rattle.std.proofs.lemmas.List.Elements.{All-map, All-weaker}
use Rattle.game_model.specs.Limits.{unit}
use Rattle.game_model.specs.Query.{Query, IsQuery, states}
use Rattle.strategies.proofs.Avoiding.{avoids-factors, rest-factors, holds-avoids, reaches-avoided}
use Rattle.strategies.proofs.Plans.{against-near}
use Rattle.determinacy.specs.Exact.{HasValues}
use Rattle.determinacy.proofs.Bracketing.{below, above}
use Rattle.determinacy.proofs.Holding.{questions-have_values}
use Rattle.formula_reader.specs.Formula.{Tree}
use Rattle.plan_text.specs.declared.plan.Plan.{Plan}
use Rattle.certificate_audit.specs.Accepted.{IsSoundPlan}
use Rattle.verdicts.proofs.Fractions.{right}
use Rattle.verdicts.specs.declared.report.How.{How}
use Rattle.output.specs.Printed.{is_mirrored, status_of}
use Rattle.output.specs.declared.status.Status.{Status}
use Rattle.reports.specs.Valued.{asked_value, IsPrintedOf, KeepsAway, IsSoundReport}
use Rattle.reports.proofs.Limits.{plan_line}

printed-below : (mirrored : Bool) (l u top v : ℕ) → l * top ≤ unit * v → unit * v ≤ u * top
    → (if mirrored then unit - u else l) * top ≤ unit * (if mirrored then top - v else v)
printed-below true l u top v low high = avoids-factors unit u top v high
printed-below false l u top v low high = low

printed-above : (mirrored : Bool) (l u top v : ℕ) → l * top ≤ unit * v → unit * v ≤ u * top
    → unit * (if mirrored then top - v else v) ≤ (if mirrored then unit - l else u) * top
printed-above true l u top v low high = rest-factors unit l top v low
printed-above false l u top v low high = high

pub keeps-away : (q : Query) (plan : Plan) → IsSoundPlan q plan → KeepsAway q plan
keeps-away q plan sound = record {
  avoids = holds-avoids q plan.replies.items (slice_index plan.upper.items) sound.held;
  avoided = reaches-avoided q plan.choices.items (slice_index plan.lower.items) sound.reached;
}

module _ (q : Query) (posed : IsQuery q) (f : Tree) (plan : Plan) (sound : IsSoundPlan q plan) (how : How) where
  pub values : HasValues q
  values = questions-have_values q posed

  at-state : (s : ℕ) → s < states q → IsPrintedOf values f (plan_line f how plan s)
  at-state s inside =
      let low : slice_index plan.lower.items s * values.top ≤ unit * values.value s =
      below q posed (slice_index plan.lower.items) values
      (against-near q plan.choices.items (slice_index plan.lower.items) posed sound.reached) s inside in
      let high : unit * values.value s ≤ slice_index plan.upper.items s * values.top =
      above q posed (slice_index plan.upper.items) values sound.high s inside in
      let under = printed-below (is_mirrored f.kind) (slice_index plan.lower.items s)
      (slice_index plan.upper.items s) values.top (values.value s) low high in
      let over = printed-above (is_mirrored f.kind) (slice_index plan.lower.items s)
      (slice_index plan.upper.items s) values.top (values.value s) low high in
      record {
        below = under;
        above = over;
        right = right f.bound (asked_value f values s) values.top _ _ values.positive under over;
      }

  pub all-valued : (initial : List ℕ) → All (λ s. s < states q) initial
      → All (IsPrintedOf values f) (map (plan_line f how plan) initial)
  all-valued initial inside = All-map (IsPrintedOf values f) (plan_line f how plan) initial
      (All-weaker (λ s. s < states q) (λ s. IsPrintedOf values f (plan_line f how plan s)) at-state initial inside)

  pub told : (initial : List ℕ) (status : Status) → All (λ s. s < states q) initial
      → status ≡ status_of (map (plan_line f how plan) initial)
      → IsSoundReport q initial f plan (map (plan_line f how plan) initial) status
  told initial status inside ended = record {
    inside = inside;
    sound = sound;
    keeps_away = λ mirrored. keeps-away q plan sound;
    values = values;
    valued = all-valued initial inside;
    ends = ended;
  }
