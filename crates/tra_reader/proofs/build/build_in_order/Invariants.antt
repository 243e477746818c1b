use Rattle.std.proofs.Common.{take, drop}
use Rattle.transition_lines.specs.Order.{From, Rises, transition_place}
use Rattle.tra_reader.specs.inside.GrowingGames.{HoldsInOrder, place_under_way}
use Rattle.tra_reader.proofs.build.build_in_order.Given as goal

abbrev pub invariant-loop-transition : goal.invariant-loop-transition
invariant-loop-transition l = record {
  holds : HoldsInOrder l.game l.header.states (take l.transition-index l.transitions);
  behind : From transition_place (place_under_way l.game) (drop l.transition-index l.transitions);
  rises : Rises transition_place (drop l.transition-index l.transitions);
}
