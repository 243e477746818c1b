use Rattle.std.proofs.Common.{◌<◌}
use Rattle.float_games.specs.Units.{AreInUnits}
use Rattle.local_values.proofs.solving.last_change.Given as goal

abbrev pub invariant-loop : goal.invariant-loop
invariant-loop l = 0 < l.counter → AreInUnits l.values
