use Rattle.std.proofs.Common.{◌≡◌}
use Rattle.drawn_game.specs.Drawings.{times}
use Rattle.drawn_game.specs.Rules.{drawn_choice}
use Rattle.drawn_game.proofs.states.draw_state.Given as goal

-- the choices so far are in the builder
abbrev pub invariant-loop-choice : goal.invariant-loop-choice
invariant-loop-choice l = record {
  last : l.draws ≡ (times l._choice (drawn_choice l.states) l.initial.draws).last;
  built : l.builder ≡ record {
    done = l.fn.builder.done;
    under_way = (times l._choice (drawn_choice l.states) l.initial.draws).value;
  };
}
