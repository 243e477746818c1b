use Rattle.std.proofs.Common.{◌≡◌, ◌+◌, ◌++◌}
use Rattle.drawn_game.specs.Drawings.{times}
use Rattle.drawn_game.specs.Rules.{other_part}
use Rattle.drawn_game.proofs.Rising.{AreOfParts}
use Rattle.drawn_game.proofs.choices.draw_choice.Given as goal

-- the edges are what the parts so far add up to
abbrev pub invariant-loop-part : goal.invariant-loop-part
invariant-loop-part l = record {
  last : l.draws ≡ (times l._part (other_part l.states) l.initial.draws).last;
  parts : AreOfParts l.states (l.initial.edges.items ++ (times l._part (other_part l.states) l.initial.draws).value)
      (l._part + 1) l.edges.items;
}
