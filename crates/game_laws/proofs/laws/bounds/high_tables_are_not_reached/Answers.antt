use Rattle.game_laws.proofs.Truth.{IsHigh-not-reaches}
use Rattle.game_laws.proofs.laws.bounds.high_tables_are_not_reached.Goals as goal

pub returns : goal.returns
returns c = IsHigh-not-reaches
