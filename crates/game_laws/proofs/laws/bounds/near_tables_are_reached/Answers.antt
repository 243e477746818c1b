use Rattle.game_laws.proofs.Truth.{IsNear-reaches}
use Rattle.game_laws.proofs.laws.bounds.near_tables_are_reached.Goals as goal

pub returns : goal.returns
returns c = IsNear-reaches
