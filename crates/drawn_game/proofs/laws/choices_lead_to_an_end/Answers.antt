use Rattle.std.proofs.Common.{[], arith}
use Rattle.game_model.specs.Game.{no_distribution}
use Rattle.drawn_game.specs.Rules.{drawn_game}
use Rattle.drawn_game.proofs.Games.{drawn-choices}
use Rattle.drawn_game.proofs.Reaching.{game-ends}
use Rattle.drawn_game.proofs.laws.choices_lead_to_an_end.Goals as goal

pub returns : goal.returns
unfolding drawn_game
returns c = λ seed n s k enough inside some.
    game-ends n seed enough s [] (omega (arith, (drawn-choices n seed enough).many)) k no_distribution some
