use Rattle.std.proofs.Common.{ℕ, ◌<◌, ◌≤◌}
use Rattle.std.specs.Prelude.{slice_index}
use Rattle.game_model.specs.Limits.{unit}
use Rattle.rank_certificate.proofs.check.first_over.Given as goal

abbrev pub invariant-loop-state : goal.invariant-loop-state
invariant-loop-state l = (s : ℕ) → s < l.state → slice_index l.values s ≤ unit
