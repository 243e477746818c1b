use Rattle.std.proofs.Common.{◌≡◌, ◌/◌, ◌^◌, ◌++◌, map, take}
use Rattle.game_model.proofs.builder.push_high.Given as goal

-- the words so far are behind the others
abbrev pub invariant-loop-edge : goal.invariant-loop-edge
invariant-loop-edge l = l.high.items ≡ l.fn.high.items ++ map (λ e. e.weight / 2 ^ 64) (take l.edge-index l.edges)
