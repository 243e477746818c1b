use Rattle.std.proofs.Common.{◌≡◌, ◌++◌, take, drop}
use Rattle.drawn_game.specs.inside.Adding.{with_part}
use Rattle.drawn_game.proofs.choices.add_part.Given as goal

-- the edges are as they were, and the part belongs behind those so far
abbrev pub invariant-loop-place : goal.invariant-loop-place
invariant-loop-place l = record {
  same : l.edges.items ≡ l.fn.edges.items;
  behind : with_part l.fn.edges.items l.part
      ≡ take l.place l.fn.edges.items ++ with_part (drop l.place l.fn.edges.items) l.part;
}
