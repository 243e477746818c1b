use Rattle.std.proofs.Common.{rules, []}
use Rattle.tra_reader.proofs.Growing.{holds_none}
use Rattle.tra_reader.proofs.game_in_order.GameInOrder.new.Goals as goal

pub invariant_of-result : goal.invariant_of-result
invariant_of-result c = record {
  n = c.args.states;
  transitions = [];
  holds = holds_none c.args.states c.in-Ok.builder c.new-2.result.items c.requires.some c.requires.few
      c.in-Ok.ensures (search rules);
}

pub returns-clause-holds : goal.returns-clause-holds
returns-clause-holds c = holds_none c.args.states c.in-Ok.builder c.new-2.result.items c.requires.some c.requires.few
    c.in-Ok.ensures (search rules)
