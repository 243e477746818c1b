use Rattle.strategies.specs.worked_games.Games.{give_and_take}
use Rattle.strategies.proofs.Posed.{is_give}
use Rattle.determinacy.proofs.Thirds.{bold-reaches, harsh-holds, in-thirds}
use Rattle.determinacy.proofs.worked_games.values_are_thirds.Goals as goal

pub returns : goal.returns
returns c = record {
  reached = bold-reaches;
  held = harsh-holds;
  one = λ v s inside. c.bounds_lie_on_either_side.ensures.one give_and_take v in-thirds is_give s inside;
}
