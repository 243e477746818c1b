use Rattle.game_laws.proofs.Truth.{IsLow-reaches}
use Rattle.game_laws.proofs.laws.bounds.low_tables_are_reached.Goals as goal

pub returns : goal.returns
returns c = IsLow-reaches
