use Rattle.std.proofs.Common.{◌≤◌}
use Rattle.reward_units.specs.Units.{most_places}
use Rattle.reward_solver.specs.Candidates.{AreCandidates}
use Rattle.reward_solver.proofs.search.find_reward_bounds.Given as goal

abbrev pub invariant-loop : goal.invariant-loop
invariant-loop l = record {
  found : AreCandidates l.question l.rewards l.found;
  places : l.places.now ≤ most_places;
}
