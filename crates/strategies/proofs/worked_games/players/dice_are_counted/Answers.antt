use Rattle.std.proofs.Common.{refl}
use Rattle.game_model.specs.Values.{numerator_of}
use Rattle.strategies.proofs.worked_games.players.dice_are_counted.Goals as goal

pub returns-clause-best : goal.returns-clause-best
unfolding numerator_of
returns-clause-best c = refl
