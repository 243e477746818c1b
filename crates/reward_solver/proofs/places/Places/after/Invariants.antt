use Rattle.std.proofs.Common.{◌≤◌}
use Rattle.reward_units.specs.Units.{most_places}
use Rattle.reward_solver.proofs.places.Places.after.Given as goal

abbrev pub invariant-loop : goal.invariant-loop
invariant-loop l = l.now ≤ most_places
