use Rattle.std.proofs.Common.{◌≡◌, map, []}
use Rattle.drawn_game.specs.Drawings.{times}
use Rattle.drawn_game.specs.Rules.{drawn_state}
use Rattle.drawn_game.proofs.drawn.draw_game.Given as goal

-- the states so far are in the builder, and their sides in the list
abbrev pub invariant-loop-state : goal.invariant-loop-state
invariant-loop-state l = record {
  last : l.draws ≡ (times l._state (drawn_state l.states) l.seed).last;
  built : l.builder
      ≡ record { done = map (λ s. s.choices) (times l._state (drawn_state l.states) l.seed).value; under_way = [] };
  sides : l.sides.items ≡ map (λ s. s.side) (times l._state (drawn_state l.states) l.seed).value;
}
