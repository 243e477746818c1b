use Rattle.std.proofs.Common.{ℕ, ◌<◌, ◌≤◌}
use Rattle.std.specs.Prelude.{slice_index}
use Rattle.game_model.specs.Rounded.{up_step}
use Rattle.inductive_check.proofs.upper.check_upper.Given as goal

abbrev pub invariant-loop-state : goal.invariant-loop-state
invariant-loop-state l = (s : ℕ) → s < l.state → up_step l.question (slice_index l.upper) s ≤ slice_index l.upper s
