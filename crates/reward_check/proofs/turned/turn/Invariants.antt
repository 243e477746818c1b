use Rattle.std.proofs.Common.{◌≡◌, take, map}
use Rattle.game_model.specs.Dual.{other_side}
use Rattle.reward_check.proofs.turned.turn.Given as goal

abbrev pub invariant-loop-state : goal.invariant-loop-state
invariant-loop-state l = record {
  sides : l.sides.items ≡ map other_side (take l.state l.question.sides);
  goals : l.goals.items ≡ take l.state l.question.goals;
  deads : l.deads.items ≡ take l.state l.question.deads;
}
