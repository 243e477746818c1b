use Rattle.std.proofs.Common.{◌≡◌, ◌%◌, ◌^◌, ◌++◌, map, take}
use Rattle.game_model.proofs.builder.add_edges.Given as goal

-- the edges so far are behind the others
abbrev pub invariant-loop-edge : goal.invariant-loop-edge
invariant-loop-edge l = (l.to.items ≡ l.fn.to.items ++ map (λ e. e.to) (take l.edge-index l.edges))
    × (l.low.items ≡ l.fn.low.items ++ map (λ e. e.weight % 2 ^ 64) (take l.edge-index l.edges))
