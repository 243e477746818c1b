use Rattle.std.proofs.Common.{ℕ, ◌<◌, ◌≤◌}
use Rattle.std.specs.Prelude.{slice_index}
use Rattle.game_model.specs.Limits.{unit}
use Rattle.inductive_check.proofs.upper.check_units.Given as goal

abbrev pub invariant-loop-state : goal.invariant-loop-state
invariant-loop-state l = (s : ℕ) → s < l.state → slice_index l.upper s ≤ unit
