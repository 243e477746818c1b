use Rattle.std.proofs.Common.{ℕ, ◌<◌, ◌≤◌}
use Rattle.std.specs.Prelude.{slice_index}
use Rattle.game_model.specs.Rounded.{down_step}
use Rattle.fixed_bellman.proofs.settling.settled.Given as goal

abbrev pub invariant-loop-state : goal.invariant-loop-state
invariant-loop-state l = (s : ℕ) → s < l.state → down_step l.question (slice_index l.table) s ≤ slice_index l.table s
