-- The printed bounds of `G` are sound, since those of its dual are.
use Rattle.std.proofs.Common.{◌≡◌, ◌≤◌, ◌<◌, ◌+◌, ◌-◌, ◌*◌, ◌^◌, ℕ, subst, arith}
use Rattle.std.specs.Prelude.{slice_index}
use Rattle.game_model.specs.Bounds.{Reaches}
use Rattle.game_model.specs.Limits.{unit}
use Rattle.game_model.specs.Query.{Query, states}
use Rattle.game_model.specs.Values.{denominator, numerator}
use Rattle.plan_text.specs.declared.plan.Plan.{Plan}
use Rattle.plan_text.specs.Entries.{HasStates}
use Rattle.certificate_audit.specs.Accepted.{IsSoundPlan, Passes}
use Rattle.formula_truth.specs.Rest.{IsBelowRest, IsNearRest}
use Rattle.reports.proofs.Limits.{plan-units}

-- the rest of an upper bound, and of a lower one
rest-below : (top rest upper d reached : ℕ) → rest + upper ≡ top → reached ≤ upper * d → rest * d + reached ≤ top * d
rest-below top rest upper d reached whole high = subst (λ t. rest * d + reached ≤ t * d) whole (omega (arith, high))

rest-near : (top rest lower d m reached : ℕ) → rest + lower ≡ top → lower * m * d ≤ reached
    → top * (m * d) ≤ m * rest * d + reached
rest-near top rest lower d m reached whole near =
    subst (λ t. t * (m * d) ≤ m * rest * d + reached) whole (omega (arith, near))

pub mirrored-sound : (q : Query) (plan : Plan) (s : ℕ) → HasStates plan (states q) → Passes q plan
    → IsSoundPlan q plan → s < states q → Reaches q (slice_index plan.lower.items s) unit s
    → IsBelowRest q s (unit - slice_index plan.upper.items s) × IsNearRest q s (unit - slice_index plan.lower.items s)
mirrored-sound q plan s lists passes sound inside reached = (below, near)
  where
    units : (slice_index plan.lower.items s ≤ unit) × (slice_index plan.upper.items s ≤ unit)
    units = plan-units q plan lists passes s inside

    below : IsBelowRest q s (unit - slice_index plan.upper.items s)
    below k = rest-below unit (unit - slice_index plan.upper.items s) (slice_index plan.upper.items s)
        (denominator q.game ^ k) (unit * numerator q k s) (omega (arith, units.1)) (sound.high k s inside)

    near : IsNearRest q s (unit - slice_index plan.lower.items s)
    near m some =
        let horizon = reached m some in (
          horizon.0,
          rest-near unit (unit - slice_index plan.lower.items s) (slice_index plan.lower.items s)
              (denominator q.game ^ horizon.0) m (unit * (m * numerator q horizon.0 s + denominator q.game ^ horizon.0))
              (omega (arith, units.0)) horizon.1,
        )
