use Rattle.game_laws.proofs.Truth.{IsNear-exceeds}
use Rattle.game_laws.proofs.laws.bounds.near_tables_are_exceeded.Goals as goal

pub returns : goal.returns
returns c = IsNear-exceeds
