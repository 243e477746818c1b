use Rattle.game_laws.proofs.Truth.{IsHigh-not-exceeds}
use Rattle.game_laws.proofs.laws.bounds.high_tables_are_not_exceeded.Goals as goal

pub returns : goal.returns
returns c = IsHigh-not-exceeds
