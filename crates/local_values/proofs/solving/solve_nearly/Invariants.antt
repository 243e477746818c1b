use Rattle.float_games.specs.Units.{AreInUnits}
use Rattle.local_values.proofs.solving.solve_nearly.Given as goal

abbrev pub invariant-loop : goal.invariant-loop
invariant-loop l = AreInUnits l.values
