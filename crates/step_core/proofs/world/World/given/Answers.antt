use Rattle.std.proofs.Common.{ap, ◌∙◌}
use Rattle.std.specs.Prelude.{slice_index}
use Rattle.step_core.specs.Word.{value_at}
use Rattle.step_core.specs.Configuration.{Configuration, seen_by}
use Rattle.step_core.proofs.Told.{given-max, given-min}
use Rattle.step_core.proofs.Worlds.{values-units, values-table}
use Rattle.step_core.proofs.world.World.given.Goals as goal

pub down_choice-requires-clause-units : goal.down_choice-requires-clause-units
down_choice-requires-clause-units c =
    values-units _ c.args.self.now c.args.view c.index.result.now c.as_slice.result.now c.self.view_is c.self.invariant
    c.requires.live c.index.ensures (c.as_slice.ensures.value ∙ c.in_ok-seen.ensures)

pub returns-in-Max : goal.returns-in-Max
returns-in-Max c =
    given-max c.self.inside.question.now c.args.self.now.question (slice_index c.as_slice.result.now)
    (value_at (seen_by c.args.self.now c.args.view)) c.args.state c.args.choice c.down_choice.result
    (ap (λ (u : Configuration). u.question) c.self.view_is)
    (values-table _ c.args.self.now c.args.view c.index.result.now c.as_slice.result.now c.self.view_is c.self.invariant
    c.requires.live c.index.ensures (c.as_slice.ensures.value ∙ c.in_ok-seen.ensures))
    c.in-Max.ensures c.down_choice.ensures.value

pub down_state-requires-clause-units : goal.down_state-requires-clause-units
down_state-requires-clause-units c =
    values-units _ c.args.self.now c.args.view c.index.result.now c.as_slice-in-Min.result.now c.self.view_is
    c.self.invariant c.requires.live c.index.ensures (c.as_slice-in-Min.ensures.value ∙ c.in_ok-seen.ensures)

pub returns : goal.returns
returns c =
    given-min c.self.inside.question.now c.args.self.now.question (slice_index c.as_slice-in-Min.result.now)
    (value_at (seen_by c.args.self.now c.args.view)) c.args.state c.args.choice c.down_state.result.0
    (ap (λ (u : Configuration). u.question) c.self.view_is)
    (values-table _ c.args.self.now c.args.view c.index.result.now c.as_slice-in-Min.result.now c.self.view_is
    c.self.invariant c.requires.live c.index.ensures (c.as_slice-in-Min.ensures.value ∙ c.in_ok-seen.ensures))
    c.in-Min.ensures c.down_state.ensures.value
