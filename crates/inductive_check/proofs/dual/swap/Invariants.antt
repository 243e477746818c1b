use Rattle.std.proofs.Common.{◌≡◌, take, map}
use Rattle.game_model.specs.Dual.{other_side}
use Rattle.inductive_check.proofs.dual.swap.Given as goal

abbrev pub invariant-loop-state : goal.invariant-loop-state
invariant-loop-state l = record {
  sides : l.sides.items ≡ map other_side (take l.state l.question.sides);
  goals : l.goals.items ≡ take l.state l.zero;
  deads : l.deads.items ≡ take l.state l.question.goals;
}
