use Rattle.game_laws.proofs.Truth.{IsLow-exceeds}
use Rattle.game_laws.proofs.laws.bounds.low_tables_are_exceeded.Goals as goal

pub returns : goal.returns
returns c = IsLow-exceeds
