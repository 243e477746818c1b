use Rattle.std.specs.Prelude.{slice_index}
use Rattle.strategies.proofs.Plans.{against-near, against-reached}
use Rattle.stogame_app.proofs.Plans.{is-told}
use Rattle.stogame_app.proofs.laws.horizons.sound_plans_bound_k_step_values.Goals as goal

pub returns-clause-near : goal.returns-clause-near
returns-clause-near c =
    λ q plan posed sound. against-near q plan.choices.items (slice_index plan.lower.items) posed sound.reached

pub returns-clause-high : goal.returns-clause-high
returns-clause-high c = λ q plan posed sound. sound.high

pub returns-clause-right : goal.returns-clause-right
returns-clause-right c = λ q plan bound s posed sound inside.
    let reached = against-reached q plan.choices.items (slice_index plan.lower.items) posed sound.reached s inside in
    is-told q bound s _
    (λ yes. c.verdicts_are_true.ensures.yes q (slice_index plan.lower.items s)
    (slice_index plan.upper.items) bound s posed reached sound.high inside yes)
    (λ no. c.verdicts_are_true.ensures.no q (slice_index plan.lower.items s)
    (slice_index plan.upper.items) bound s posed reached sound.high inside no)
