use Rattle.std.proofs.Common.{◌≡◌, take, map}
use Rattle.game_model.specs.Dual.{other_side}
use Rattle.almost_sure.proofs.outer.other_side.Given as goal

abbrev pub invariant-loop-state : goal.invariant-loop-state
invariant-loop-state l = record {
  sides : l.sides.items ≡ map other_side (take l.state l.question.sides);
  deads : l.deads.items ≡ take l.state l.question.goals;
}
