use Rattle.std.proofs.Common.{refl}
use Rattle.drawn_game.specs.Drawings.{next_draw}
use Rattle.drawn_game.specs.Parts.{added_up}
use Rattle.drawn_game.specs.Rules.{drawn_game}
use Rattle.drawn_game.proofs.laws.worked_row_is_drawn.Goals as goal

pub returns : goal.returns
unfolding next_draw added_up drawn_game
returns c = refl
