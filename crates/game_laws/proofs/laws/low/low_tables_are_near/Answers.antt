use Rattle.game_laws.proofs.Truth.{IsLow-near}
use Rattle.game_laws.proofs.laws.low.low_tables_are_near.Goals as goal

pub returns : goal.returns
returns c = IsLow-near
